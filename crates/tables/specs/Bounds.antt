-- docs/RULES.md 1.5: the ceilings, by the names that they have in the code.
use Rattle.std.specs.Prelude.{ℕ, ◌^◌}

-- active pages
abbrev pub PAGES : ℕ
PAGES = 256

-- free regions and live buffers together
abbrev pub SPANS : ℕ
SPANS = 128

abbrev pub ZOMBIES : ℕ
ZOMBIES = 128

-- holes and zombies together
abbrev pub HOLES : ℕ
HOLES = 512

abbrev pub ROOTS : ℕ
ROOTS = 16

-- the largest va_size
abbrev pub VA : ℕ
VA = 2 ^ 46

-- where the last address may end
abbrev pub END : ℕ
END = 2 ^ 63

-- ids are below this where a call may spend one
abbrev pub IDS : ℕ
IDS = 2 ^ 62

-- records that a log must have room for
abbrev pub LOG : ℕ
LOG = 2048
