-- The numbers of an entry joined by `|`: they are 0 exactly where each is, which is the empty entry.
use mathlib.Core.Path.{◌≡◌, refl}
use mathlib.Core.Logic.{◌↔◌}
use Prim.Native.Nat.{ℕ}
use native.Mathlib.Omega.{arith}
use lib.Bits.{bit_or, or_add_and, and_le_l, and_le_r}
use Rattle.tables.specs.Values.{empty_buffer, empty_hole, empty_page, empty_region, empty_zombie}
use Rattle.tables.specs.declared.FreeRegion.{FreeRegion}
use Rattle.tables.specs.declared.LiveBuffer.{LiveBuffer}
use Rattle.tables.specs.declared.Hole.{Hole}
use Rattle.tables.specs.declared.Zombie.{Zombie}
use Rattle.tables.specs.declared.Page.{Page}

or-none : (a b : ℕ) → (bit_or a b ≡ 0) ↔ ((a ≡ 0) × (b ≡ 0))
or-none a b =
    (λ e. (omega (arith, or_add_and a b, and_le_r a b, e), omega (arith, or_add_and a b, and_le_l a b, e)), λ e. omega (arith, or_add_and a b, e.0, e.1))

pub region-bits : (q : FreeRegion) → (bit_or (bit_or (bit_or q.start.0 q.size) q.stream) q.id.0 ≡ 0) ↔ (q ≡ empty_region)
region-bits q = (
  λ e.
      let h0 = (or-none _ q.id.0).0 e in
      let h1 = (or-none _ q.stream).0 h0.0 in
      let h2 = (or-none _ q.size).0 h1.0 in
      λ i. record { start = record { 0 = h2.0 i }; size = h2.1 i; stream = h1.1 i; id = record { 0 = h0.1 i } },
  λ e. rw e refl,
)

pub buffer-bits : (q : LiveBuffer) → (bit_or (bit_or q.start.0 q.size) q.stream ≡ 0) ↔ (q ≡ empty_buffer)
buffer-bits q = (
  λ e.
      let h0 = (or-none _ q.stream).0 e in
      let h1 = (or-none _ q.size).0 h0.0 in
      λ i. record { start = record { 0 = h1.0 i }; size = h1.1 i; stream = h0.1 i },
  λ e. rw e refl,
)

pub hole-bits : (q : Hole) → (bit_or q.start.0 q.size ≡ 0) ↔ (q ≡ empty_hole)
hole-bits q = (
  λ e.
      let h0 = (or-none _ q.size).0 e in
      λ i. record { start = record { 0 = h0.0 i }; size = h0.1 i },
  λ e. rw e refl,
)

pub zombie-bits : (q : Zombie) → (bit_or (bit_or q.start.0 q.size) q.id.0 ≡ 0) ↔ (q ≡ empty_zombie)
zombie-bits q = (
  λ e.
      let h0 = (or-none _ q.id.0).0 e in
      let h1 = (or-none _ q.size).0 h0.0 in
      λ i. record { start = record { 0 = h1.0 i }; size = h1.1 i; id = record { 0 = h0.1 i } },
  λ e. rw e refl,
)

pub page-bits : (q : Page) → (bit_or q.start.0 q.handle.0 ≡ 0) ↔ (q ≡ empty_page)
page-bits q = (
  λ e.
      let h0 = (or-none _ q.handle.0).0 e in
      λ i. record { start = record { 0 = h0.0 i }; handle = record { 0 = h0.1 i } },
  λ e. rw e refl,
)
