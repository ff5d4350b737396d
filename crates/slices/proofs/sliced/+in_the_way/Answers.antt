use Rattle.std.proofs.Common.{◌⊎◌, ⊎_elim, sym, subst}
use Rattle.enf_formula.specs.declared.formulas.Formula.{Formula as Stored}
use Rattle.enf_formula.specs.machine.FormulaViews.{tree_of}
use Rattle.slices.specs.declared.hindrances.Hindrance.{Hindrance}
use Rattle.slices.specs.declared.verdicts.Verdict.TheVariants.{Holds, Fails}
use Rattle.slices.specs.machine.FirstHindrances.{IsFirstAnswer}
use Rattle.slices.specs.machine.StoredKeys.{keying_of}
use Rattle.slices.specs.meaning.SlicedRules.{IsInTheWay, IsOperandInTheWay, IsBoundInTheWay}
use Rattle.slices.proofs.HindranceLemmas.{either_first, operand_first}
use Rattle.slices.proofs.sliced.+in_the_way.Goals as goal

pub returns-in-Once : goal.returns-in-Once
returns-in-Once t c =
    let Goal : Stored → Type 0 = λ f. IsFirstAnswer (IsInTheWay (keying_of c.args.keys.now) c.args.x (tree_of f)) c.earlier-in-Once.result in
    let both = operand_first (keying_of c.args.keys.now) c.args.x Fails c.in-Once.f.value _ _ c.at_operand-in-Once.result c.in_the_way-in-Once.result c.earlier-in-Once.result
    c.deref-in-Once.ensures c.at_operand-in-Once.ensures c.deref-in-Once-2.ensures c.in_the_way-in-Once.ensures c.earlier-in-Once.ensures in
    ⊎_elim (λ k. subst Goal (sym k.2) both) (λ k. subst Goal (sym k.2) both) c.in-Once.is

pub returns-in-Historically : goal.returns-in-Historically
returns-in-Historically t c =
    let Goal : Stored → Type 0 = λ f. IsFirstAnswer (IsInTheWay (keying_of c.args.keys.now) c.args.x (tree_of f)) c.earlier-in-Historically.result in
    let both = operand_first (keying_of c.args.keys.now) c.args.x Holds c.in-Historically.f.value _ _ c.at_operand-in-Historically.result c.in_the_way-in-Historically.result
    c.earlier-in-Historically.result c.deref-in-Historically.ensures c.at_operand-in-Historically.ensures c.deref-in-Historically-2.ensures c.in_the_way-in-Historically.ensures
    c.earlier-in-Historically.ensures in
    ⊎_elim (λ k. subst Goal (sym k.2) both) (λ k. subst Goal (sym k.2) both) c.in-Historically.is

pub returns-in-Exists : goal.returns-in-Exists
returns-in-Exists t c =
    let keying = keying_of c.args.keys.now in
    let Goal : Stored → Type 0 = λ f. IsFirstAnswer (IsInTheWay keying c.args.x (tree_of f)) c.earlier-in-Exists.result in
    let f = tree_of c.in-Exists.f.value in
    let binder = IsBoundInTheWay c.in-Exists.place c.in-Exists.xs c.args.x in
    let inner : IsFirstAnswer (IsInTheWay keying c.args.x f) c.in_the_way-in-Exists.result =
    subst (λ (h : Stored). IsFirstAnswer (IsInTheWay keying c.args.x (tree_of h)) c.in_the_way-in-Exists.result) c.deref-in-Exists.ensures c.in_the_way-in-Exists.ensures in
    let both : IsFirstAnswer (λ h. binder h ⊎ IsInTheWay keying c.args.x f h) c.earlier-in-Exists.result =
    subst (IsFirstAnswer (λ h. binder h ⊎ IsInTheWay keying c.args.x f h)) (sym c.earlier-in-Exists.ensures)
    (either_first binder (IsInTheWay keying c.args.x f) c.at_binder.result c.in_the_way-in-Exists.result c.at_binder.ensures inner) in
    ⊎_elim (λ k. subst Goal (sym k) both) (λ k. subst Goal (sym k) both) c.in-Exists.is

pub returns-in-Since : goal.returns-in-Since
returns-in-Since t c =
    let keying = keying_of c.args.keys.now in
    let x = c.args.x in
    let f = tree_of c.in-Since.f.value in
    let g = tree_of c.in-Since.g.value in
    let Goal : Stored → Type 0 = λ h. IsFirstAnswer (IsInTheWay keying x (tree_of h)) c.earlier.result in
    let Left : Hindrance → Type 0 = λ h. IsOperandInTheWay keying f Holds h ⊎ IsInTheWay keying x f h in
    let Right : Hindrance → Type 0 = λ h. IsOperandInTheWay keying g Fails h ⊎ IsInTheWay keying x g h in
    let left : IsFirstAnswer Left c.earlier-left.result = operand_first keying x Holds c.in-Since.f.value _ _ c.at_operand.result c.in_the_way-in-Since.result c.earlier-left.result
    c.deref-in-Since.ensures c.at_operand.ensures c.deref-in-Since-2.ensures c.in_the_way-in-Since.ensures c.earlier-left.ensures in
    let right : IsFirstAnswer Right c.earlier-right.result =
    operand_first keying x Fails c.in-Since.g.value _ _ c.at_operand-in-Since.result c.in_the_way-in-Since-2.result c.earlier-right.result c.deref-in-Since-3.ensures
    c.at_operand-in-Since.ensures c.deref-in-Since-4.ensures c.in_the_way-in-Since-2.ensures c.earlier-right.ensures in
    let both : IsFirstAnswer (λ h. Left h ⊎ Right h) c.earlier.result =
    subst (IsFirstAnswer (λ h. Left h ⊎ Right h)) (sym c.earlier.ensures) (either_first Left Right c.earlier-left.result c.earlier-right.result left right) in
    ⊎_elim (λ k. subst Goal (sym k.2) both) (λ k. subst Goal (sym k.2) both) c.in-Since.is
