-- docs/RULES.md 4.5: what a malloc and a free leave of the live buffers, and of their bytes.
use Rattle.std.specs.Prelude.{◌≡◌, true, false, List, [], ◌∷◌, ℕ, ◌+◌}
use Rattle.lists.specs.Tests.{Member}
use Rattle.lists.specs.Order.{put, without}
use Rattle.lists.specs.Walks.{sum}
use Rattle.words.specs.declared.Address.{Address}
use Rattle.tables.specs.Values.{buffer, at_entry}
use Rattle.tables.specs.Outcomes.{is}
use Rattle.tables.specs.HandsBack.{Reply}
use Rattle.tables.specs.declared.LiveBuffer.{LiveBuffer}
use Rattle.tables.specs.declared.Pool.{Pool}
use Rattle.tables.specs.declared.Outcome.TheVariants.{Allocated, Freed}
use Rattle.answering.specs.Answers.{among}

-- the live buffers of a pool, in ascending address
abbrev pub live : Pool → List LiveBuffer
live p = (at_entry p).live

-- their bytes
abbrev pub live_bytes : Pool → ℕ
live_bytes p = sum (λ b. b.size) (live p)

-- A malloc of `n` bytes for the stream `s`, whose reply is `r`: a success is a buffer of `n` bytes, which is live from then on beside those that were. No
-- other number changes the live buffers, 14 and 15 among them.
pub record MallocLeavesLive (p : Pool) (n s : ℕ) (r : Reply) : Type 0 where
  pub answered : is 0 r.outcome ≡ true → (a : Address) × (r.outcome ≡ Allocated a n)
  pub size : (a : Address) (k : ℕ) → r.outcome ≡ Allocated a k → k ≡ n
  pub granted : (a : Address) (k : ℕ) → r.outcome ≡ Allocated a k → live r.pool ≡ put (λ b. b.start.0) (buffer a.0 n s) (live p)
  pub bytes : (a : Address) (k : ℕ) → r.outcome ≡ Allocated a k → live_bytes r.pool ≡ live_bytes p + n
  pub otherwise : is 0 r.outcome ≡ false → live r.pool ≡ live p

-- `taken`, live in the pool `p` at `a` with `k` bytes on the stream `s`, is what the pool `q` has no longer.
pub record TakenOut (p : Pool) (a k s : ℕ) (q : Pool) : Type 0 where
  pub taken : LiveBuffer
  pub member : Member taken (live p)
  pub start : taken.start.0 ≡ a
  pub size : taken.size ≡ k
  pub stream : taken.stream ≡ s
  pub rest : live q ≡ without (λ b. b.start.0) a (live p)

-- the numbers of a free that has taken its buffer out: at 14 the range is in no table
abbrev pub out_of_live : List ℕ
out_of_live = 0 ∷ 14 ∷ []

-- A free of `a`, whose reply is `r`: a success takes out the buffer that was live there, and answers its size and stream. But for 14, no other number changes
-- the live buffers.
pub record FreeLeavesLive (p : Pool) (a : ℕ) (r : Reply) : Type 0 where
  pub answered : is 0 r.outcome ≡ true → (k : ℕ) × ((s : ℕ) × (r.outcome ≡ Freed k s))
  pub freed : (k s : ℕ) → r.outcome ≡ Freed k s → TakenOut p a k s r.pool
  pub bytes : (k s : ℕ) → r.outcome ≡ Freed k s → live_bytes r.pool + k ≡ live_bytes p
  pub otherwise : among out_of_live r.outcome ≡ false → live r.pool ≡ live p
