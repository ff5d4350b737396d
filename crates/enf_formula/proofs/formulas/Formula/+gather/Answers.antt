use Rattle.enf_formula.proofs.Vocabulary.{◌≡◌, List, Contains, OnOk, ⊎_elim, sym, subst, ◌⊎◌, on_ok_weaker, Term, Var, VarId, tree_of, AddsVariables, IsFree}
use Rattle.enf_formula.specs.declared.formulas.Formula.{Formula as Stored}
use Rattle.enf_formula.proofs.Gathering.{adds_both, adds_inner}
use Rattle.enf_formula.proofs.formulas.Formula.+gather.Goals as goal

pub returns-in-Atom : goal.returns-in-Atom
returns-in-Atom t c =
    let Goal : Stored → Type 0 = λ f. OnOk c.add_all.result (AddsVariables (λ x. IsFree x (tree_of f)) c.args.found.now.keys c.add_all.new.found.keys) in
    subst Goal (sym c.in-Atom.is)
    (subst (λ (terms : List Term). OnOk c.add_all.result (AddsVariables (λ x. Contains terms (Var x)) c.args.found.now.keys c.add_all.new.found.keys)) c.as_slice.ensures c.add_all.ensures)

pub returns-in_ok-add_term-in-Equal : goal.returns-in_ok-add_term-in-Equal
returns-in_ok-add_term-in-Equal t c =
    let Goal : Stored → Type 0 = λ f. OnOk c.add_term-in-Equal.result (AddsVariables (λ x. IsFree x (tree_of f)) c.args.found.now.keys c.add_term-in-Equal.new.found.keys) in
    let both : OnOk c.add_term-in-Equal.result (AddsVariables (λ x. (c.in-Equal.s ≡ Var x) ⊎ (c.in-Equal.t ≡ Var x)) c.args.found.now.keys c.add_term-in-Equal.new.found.keys) =
    on_ok_weaker c.add_term-in-Equal.result (λ b. adds_both c.in_ok-add_term-in-Equal.ensures b) c.add_term-in-Equal.ensures in
    ⊎_elim (λ k. subst Goal (sym k.1) both) (⊎_elim (λ k. subst Goal (sym k.1) both) (λ k. subst Goal (sym k.1) both)) c.in-Equal.is

pub returns-in-Not : goal.returns-in-Not
returns-in-Not t c =
    let Goal : Stored → Type 0 = λ f. OnOk c.gather-in-Not.result (AddsVariables (λ x. IsFree x (tree_of f)) c.args.found.now.keys c.gather-in-Not.new.found.keys) in
    let one : Goal c.in-Not.f.value = subst Goal c.deref-in-Not.ensures c.gather-in-Not.ensures in
    ⊎_elim (λ k. subst Goal (sym k.1) one)
    (⊎_elim (λ k. subst Goal (sym k.2) one) (⊎_elim (λ k. subst Goal (sym k.2) one) (⊎_elim (λ k. subst Goal (sym k.2) one)
    (⊎_elim (λ k. subst Goal (sym k.2) one) (⊎_elim (λ k. subst Goal (sym k.2) one) (λ k. subst Goal (sym k.2) one))))))
    c.in-Not.is

pub returns-in_ok-gather-in-And : goal.returns-in_ok-gather-in-And
returns-in_ok-gather-in-And t c =
    let f = c.in-And.f.value in
    let g = c.in-And.g.value in
    let before = c.args.found.now.keys in
    let middle = c.gather-in-And.new.found.keys in
    let after = c.gather-in-And-2.new.found.keys in
    let Goal : Stored → Type 0 = λ h. OnOk c.gather-in-And-2.result (AddsVariables (λ x. IsFree x (tree_of h)) before after) in
    let first : AddsVariables (λ x. IsFree x (tree_of f)) before middle = subst (λ (h : Stored). AddsVariables (λ x. IsFree x (tree_of h)) before middle) c.deref-in-And.ensures
    c.in_ok-gather-in-And.ensures in
    let both : OnOk c.gather-in-And-2.result (AddsVariables (λ x. IsFree x (tree_of f) ⊎ IsFree x (tree_of g)) before after) =
    on_ok_weaker c.gather-in-And-2.result (λ b. adds_both first (subst (λ (h : Stored). AddsVariables (λ x. IsFree x (tree_of h)) middle after) c.deref-in-And-2.ensures b))
    c.gather-in-And-2.ensures in
    ⊎_elim (λ k. subst Goal (sym k.1) both) (⊎_elim (λ k. subst Goal (sym k.1) both) (⊎_elim (λ k. subst Goal (sym k.1) both)
    (⊎_elim (λ k. subst Goal (sym k.2) both) (λ k. subst Goal (sym k.2) both)))) c.in-And.is

pub returns-in_ok-inner-in-Exists : goal.returns-in_ok-inner-in-Exists
returns-in_ok-inner-in-Exists t c =
    let f = c.in-Exists.f.value in
    let Goal : Stored → Type 0 = λ h. OnOk c.add_unbound.result (AddsVariables (λ x. IsFree x (tree_of h)) c.args.found.now.keys c.add_unbound.new.found.keys) in
    let inner : AddsVariables (λ x. IsFree x (tree_of f)) c.new-inner.result.keys c.in_ok-inner-in-Exists.inner =
    subst (AddsVariables (λ x. IsFree x (tree_of f)) c.new-inner.result.keys) (sym c.in_ok-inner-in-Exists.ensures.same)
    (subst (λ (h : Stored). AddsVariables (λ x. IsFree x (tree_of h)) c.new-inner.result.keys c.gather.new.found.keys) c.deref.ensures c.in_ok-gather-in-Exists.ensures) in
    let unbound : OnOk c.add_unbound.result (AddsVariables (λ y. Contains c.in_ok-inner-in-Exists.inner y × (Contains c.in-Exists.xs y → ⊥)) c.args.found.now.keys c.add_unbound.new.found.keys) =
    subst (λ (xs : List VarId). OnOk c.add_unbound.result (AddsVariables (λ y. Contains xs y × (Contains c.in-Exists.xs y → ⊥)) c.args.found.now.keys c.add_unbound.new.found.keys))
    c.as_slice-in-Exists.ensures
    (subst (λ (bound : List VarId). OnOk c.add_unbound.result (AddsVariables (λ y. Contains c.as_slice-in-Exists.result.now y × (Contains bound y → ⊥)) c.args.found.now.keys
    c.add_unbound.new.found.keys)) c.as_slice-in-Exists-2.ensures c.add_unbound.ensures) in
    let both : OnOk c.add_unbound.result (AddsVariables (λ x. IsFree x (tree_of f) × (Contains c.in-Exists.xs x → ⊥)) c.args.found.now.keys c.add_unbound.new.found.keys) =
    on_ok_weaker c.add_unbound.result (λ a. adds_inner c.in-Exists.xs c.new-inner.ensures.empty inner a) unbound in
    ⊎_elim (λ k. subst Goal (sym k.1) both) (λ k. subst Goal (sym k.1) both) c.in-Exists.is
