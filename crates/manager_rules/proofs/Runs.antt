-- A run of a layer that is asked for no small buffer is the pool's own run, call by call.
use mathlib.Core.Path.{◌≡◌, refl, ap, subst, ◌∙◌}
use mathlib.Core.Logic.{◌⊎◌, inl, inr, ⊎_elim}
use mathlib.Core.Bool.{true}
use mathlib.Core.List.{List, [], ◌∷◌, map}
use Prim.Native.Nat.{ℕ}
use Rattle.lists.specs.Tests.{All}
use Rattle.tables.specs.Values.{closed_pool, pool_of}
use Rattle.tables.specs.HandsBack as PoolHandsBack
use Rattle.tables.specs.Open.{open_pool}
use Rattle.tables.specs.Malloc as PoolMalloc
use Rattle.tables.specs.Free as PoolFree
use Rattle.tables.specs.Close as PoolClose
use Rattle.tables.specs.Calls as PoolCalls
use Rattle.tables.specs.Calls.{Call, mallocs, frees, closes}
use Rattle.tables.specs.declared.Outcome.TheVariants.{PoolClosed}
use Rattle.answering.proofs.PageSize.{malloc-page, free-page}
use Rattle.manager_rules.specs.Values.{small, over, closed_manager}
use Rattle.manager_rules.specs.Sizes.{rounded}
use Rattle.manager_rules.specs.WellFormed.{well_formed}
use Rattle.manager_rules.specs.HandsBack.{refused, admitted}
use Rattle.manager_rules.specs.Open.{open_manager}
use Rattle.manager_rules.specs.Malloc.{malloc}
use Rattle.manager_rules.specs.Free.{free}
use Rattle.manager_rules.specs.Close.{close}
use Rattle.manager_rules.specs.Calls.{answer}
use Rattle.manager_rules.specs.Runs.{Lent, run_of, pool_run_of, in_pages, lent_in_pages, OfPages}
use Rattle.manager_rules.specs.declared.Manager.{Manager}
use Rattle.manager_rules.proofs.Keeps.{ClosedOrFormed, close-leaves, manager-keeps, opening-keeps, small_with}
use Rattle.manager_rules.proofs.WithoutSmall.{SameReply, without-small}

-- A closed layer refuses every call, as a closed pool does.
closed-refuses : (c : Call) (xs : List ℕ) (log : ℕ) → answer closed_manager c xs log ≡ refused closed_manager PoolClosed
unfolding malloc free close admitted pool_of
closed-refuses (mallocs n s) xs log = refl
closed-refuses (frees a) xs log = refl
closed-refuses closes xs log = refl

closed-pool-refuses : (c : Call) (xs : List ℕ) (log : ℕ) → PoolCalls.answer closed_pool c xs log ≡ PoolHandsBack.refused closed_pool PoolClosed
unfolding PoolMalloc.malloc_by PoolFree.free PoolClose.close PoolHandsBack.admitted pool_of
closed-pool-refuses (mallocs n s) xs log = refl
closed-pool-refuses (frees a) xs log = refl
closed-pool-refuses closes xs log = refl

closed_run : (g : ℕ) (cs : List Lent) → run_of closed_manager cs ≡ pool_run_of closed_pool (map (lent_in_pages g) cs)
closed_run g [] = refl
closed_run g (c ∷ cs) = rw (closed-refuses c.call c.answers c.log, closed-pool-refuses (in_pages g c.call) c.answers c.log, closed_run g cs)

-- A call leaves a closed layer, or the page size as it was.
page-after : (m : Manager) (c : Call) (xs : List ℕ) (log : ℕ) → well_formed m ≡ true → small m ≡ [] → OfPages m.pool.page c →
    ((answer m c xs log).manager ≡ closed_manager) ⊎ ((answer m c xs log).manager.pool.page ≡ m.pool.page)
page-after m (mallocs n s) xs log w h a =
    inr (ap (λ p. p.page) (without-small m w h (mallocs n s) xs log a).pool ∙ malloc-page m.pool (rounded m.pool.page n) s xs log)
page-after m (frees b) xs log w h a = inr (ap (λ p. p.page) (without-small m w h (frees b) xs log a).pool ∙ free-page m.pool b xs log)
page-after m closes xs log w h a = ⊎_elim (λ e. inl e) (λ e. inr (ap (λ q. q.pool.page) e)) (close-leaves m xs log)

-- what stands between the calls of such a run, with pages of `g` bytes
abbrev Between : ℕ → Manager → Type 0
Between g m = (m ≡ closed_manager) ⊎ ((well_formed m ≡ true) × (m.pool.page ≡ g))

between : (g : ℕ) (m : Manager) → (m ≡ closed_manager) ⊎ (m.pool.page ≡ g) → ClosedOrFormed m → Between g m
between g m (inl e) f = inl e
between g m (inr e) (inl f) = inl f
between g m (inr e) (inr w) = inr (w, e)

-- the runs of a layer and of its pool are the same
abbrev SameRun : ℕ → List Lent → Manager → Type 0
SameRun g cs m = run_of m cs ≡ pool_run_of m.pool (map (lent_in_pages g) cs)

-- one call, and then as the layer that it leaves goes on
one-call : (g : ℕ) (c : Lent) (cs : List Lent) (m : Manager) → m.pool.page ≡ g → well_formed m ≡ true → small m ≡ [] → OfPages g c.call →
    ((q : Manager) → Between g q → small q ≡ [] → SameRun g cs q) → SameRun g (c ∷ cs) m
one-call g c cs m e w n o rest =
    let q = (answer m c.call c.answers c.log).manager in
    let p : OfPages m.pool.page c.call = rw e o in
    let s =
    subst (λ (x : ℕ). SameReply (answer m c.call c.answers c.log) (PoolCalls.answer m.pool (in_pages x c.call) c.answers c.log))
    e (without-small m w n c.call c.answers c.log p) in
    let page = subst (λ (x : ℕ). (q ≡ closed_manager) ⊎ (q.pool.page ≡ x)) e (page-after m c.call c.answers c.log w n p) in
    rw (rest q (between g q page (manager-keeps m c.call c.answers c.log w)) s.none, s.pool, s.outcome, s.records, s.taken)

same-run : (g : ℕ) (cs : List Lent) (m : Manager) → Between g m → small m ≡ [] → All (λ c. OfPages g c.call) cs → SameRun g cs m
same-run g [] m h n a = refl
same-run g (c ∷ cs) m (inl e) n a = rw e (closed_run g (c ∷ cs))
same-run g (c ∷ cs) m (inr h) n a = one-call g c cs m h.1 h.0 n a.0 (λ q b k. same-run g cs q b k a.1)

-- Such a run of a well-formed layer that holds no small buffer, and one from its opening on: the opening itself is the pool's by definition.
pub run-without-small : (m : Manager) (cs : List Lent) → well_formed m ≡ true → small m ≡ [] → All (λ c. OfPages m.pool.page c.call) cs →
    run_of m cs ≡ pool_run_of m.pool (map (lent_in_pages m.pool.page) cs)
run-without-small m cs w n a = same-run m.pool.page cs m (inr (w, refl)) n a

pub opened-run-without-small : (granularity override va initial stream : ℕ) (xs : List ℕ) (log : ℕ) (cs : List Lent) →
    let p = (open_pool granularity override va initial stream xs log).pool in
    All (λ c. OfPages p.page c.call) cs →
    run_of (open_manager granularity override va initial stream xs log).manager cs ≡ pool_run_of p (map (lent_in_pages p.page) cs)
unfolding open_manager
opened-run-without-small granularity override va initial stream xs log cs a =
    let p = (open_pool granularity override va initial stream xs log).pool in
    same-run p.page cs (over p) (between p.page (over p) (inr refl) (opening-keeps granularity override va initial stream xs log))
    (small_with (over p) []) a
