-- `calls::refusing::is_bad` meets its contract: each return rewrites with the tests that led there.
use mathlib.Core.Path.{◌≡◌, ap, sym, ◌∙◌}
use native.Mathlib.Omega.{arith}
use borrow.Author.Tests.{eq-eqb, ne_eqb, lt-ltb, le-ltb}
use Rattle.tables.specs.Bounds.{PAGES}
use Rattle.tables.specs.WellFormed.{allowed}
use Rattle.tables.specs.Open.{page_size, bad_configuration}
use Rattle.calls.proofs.Opening.{initial-fits}
use Rattle.calls.proofs.refusing.is_bad.Goals as goal

pub returns-then-granularity-eq0 : goal.returns-then-granularity-eq0
unfolding bad_configuration
returns-then-granularity-eq0 c = rw (eq-eqb _ 0 c.if-granularity-eq0.true)

pub returns-then-override_size-granularity-ne0 : goal.returns-then-override_size-granularity-ne0
unfolding bad_configuration
returns-then-override_size-granularity-ne0 c = rw (ne_eqb _ 0 c.if-granularity-eq0.false, ne_eqb _ 0 c.if-override_size-granularity-ne0.true)

pub returns-then-not-is_allowed : goal.returns-then-not-is_allowed
unfolding bad_configuration
returns-then-not-is_allowed c =
    let allowed-is : let a = c.args in
    allowed (page_size a.granularity a.override_size) a.va ≡ c.is_allowed.result = ap (λ page. allowed page c.args.va) (sym c.page_size-page.ensures) ∙ sym c.is_allowed.ensures in
    rw (ne_eqb _ 0 c.if-granularity-eq0.false, eq-eqb _ 0 c.if-override_size-granularity-ne0.false, allowed-is ∙ c.if-not-is_allowed.true)

pub returns-then-initial : goal.returns-then-initial
unfolding bad_configuration
returns-then-initial c =
    let allowed-is : let a = c.args in
    allowed (page_size a.granularity a.override_size) a.va ≡ c.is_allowed.result = ap (λ page. allowed page c.args.va) (sym c.page_size-page.ensures) ∙ sym c.is_allowed.ensures in
    rw (ne_eqb _ 0 c.if-granularity-eq0.false, eq-eqb _ 0 c.if-override_size-granularity-ne0.false, allowed-is ∙ c.if-not-is_allowed.false, lt-ltb PAGES _ c.if-initial.true)

pub overflow_mul-result : goal.overflow_mul-result
overflow_mul-result c =
    let a = c.args in
    omega (arith, initial-fits c.page_size-page.result a.va a.initial (sym c.is_allowed.ensures ∙ c.if-not-is_allowed.false) c.if-initial.false)

pub returns : goal.returns
unfolding bad_configuration
returns c =
    let allowed-is : let a = c.args in
    allowed (page_size a.granularity a.override_size) a.va ≡ c.is_allowed.result = ap (λ page. allowed page c.args.va) (sym c.page_size-page.ensures) ∙ sym c.is_allowed.ensures in
    rw (ne_eqb _ 0 c.if-granularity-eq0.false, eq-eqb _ 0 c.if-override_size-granularity-ne0.false, allowed-is ∙ c.if-not-is_allowed.false, le-ltb PAGES _ c.if-initial.false, c.page_size-page.ensures)
