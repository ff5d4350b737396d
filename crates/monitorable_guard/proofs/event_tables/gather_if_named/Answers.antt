use Rattle.monitorable_guard.proofs.Vocabulary.{◌≡◌, ℕ, List, ap, arith, subst, NameId, Value, AddsRows, IsMatchOf, bound_in}
use Rattle.monitorable_guard.proofs.RowsLemmas.{adds_as, adds_nothing, on_ok}
use Rattle.monitorable_guard.proofs.event_tables.gather_if_named.Goals as goal

pub returns-then-eq : goal.returns-then-eq
returns-then-eq c =
    let v = bound_in c.args.v.now in
    let columns = c.args.columns.now in
    let terms = c.args.terms.now in
    let event = c.args.event.now in
    let number : event.name.0 ≡ c.args.name.0 = grind (arith, c.eq.ensures, c.if-eq.true) in
    let named : event.name ≡ c.args.name = ap (λ (n : ℕ). let name : NameId = record { 0 = n } in name) number in
    on_ok c.gather_match.result _ _
    (λ (adds : AddsRows columns c.args.out.now.items c.gather_match.new.out.items (IsMatchOf terms c.as_slice.result.now v columns)).
    adds_as columns c.args.out.now.items c.gather_match.new.out.items (IsMatchOf terms event.args v columns)
    (λ w. (event.name ≡ c.args.name) × IsMatchOf terms event.args v columns w)
    (λ w is. (named, is))
    (λ w both none. none both.1)
    (subst (λ (values : List Value). AddsRows columns c.args.out.now.items c.gather_match.new.out.items (IsMatchOf terms values v columns)) c.as_slice.ensures adds))
    c.gather_match.ensures

pub returns-else-eq : goal.returns-else-eq
returns-else-eq c =
    adds_nothing c.args.columns.now c.args.out.now.items _
    (λ w both. let number = ap (λ (m : NameId). m.0) both.0 in grind (arith, c.eq.ensures, c.if-eq.false, number))
