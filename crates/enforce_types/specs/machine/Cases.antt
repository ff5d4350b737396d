-- Small formulas and their plans, on which the rules can be checked by eye.
use Rattle.enf_data.specs.declared.events.NameId.{NameId}
use Rattle.enf_data.specs.declared.steps.Step.{Step}
use Rattle.enf_data.specs.declared.terms.Term.TheVariants.{Var, Const}
use Rattle.enf_data.specs.declared.terms.VarId.{VarId}
use Rattle.enf_data.specs.declared.values.Value.{Value}
use Rattle.std.specs.Prelude.{nat_eq, Bool, [], Ok, ℕ, Err, ◌∷◌, true, false, List, codes}
use Rattle.enf_formula.specs.machine.Cases.{name_p, name_q, variable_x, interval_from, interval_between}
use Rattle.enf_formula.specs.meaning.Satisfaction.{Formula}
use Rattle.signature.specs.declared.entries.NameEntry.{NameEntry}
use Rattle.plan_terms.specs.meaning.Plans.{Plan}
use Rattle.enforce_types.specs.declared.refusals.Refusal.TheVariants.{NotEnforceable, Unguarded}
use Rattle.enforce_types.specs.meaning.Elab.{Answer, Elab, Up, Down}
use Rattle.enf_formula.specs.meaning.Satisfaction as tree
use Rattle.plan_terms.specs.meaning.Plans as plan
use Rattle.signature.specs.declared.entries.Sort.TheVariants as sort
use Rattle.enf_data.specs.declared.values.Value.TheVariants as values

-- q can be caused, and p suppressed
abbrev pub can_cause : NameId → Bool
can_cause name = nat_eq name.0 1

abbrev pub can_suppress : NameId → Bool
can_suppress name = nat_eq name.0 0

-- with no variable in scope, the answer for a formula that is to be made true, or false
abbrev pub MadeTrue : Formula → Answer → Type 0
MadeTrue f answer = Elab can_cause can_suppress Up f [] answer

abbrev pub MadeFalse : Formula → Answer → Type 0
MadeFalse f answer = Elab can_cause can_suppress Down f [] answer

-- a formula that is to be made true has this plan
abbrev pub TrueBy : Formula → Plan → Type 0
TrueBy f made = MadeTrue f (Ok made)

abbrev pub FalseBy : Formula → Plan → Type 0
FalseBy f made = MadeFalse f (Ok made)

-- the formula at this place is refused, or a quantifier there has no guard
abbrev pub not_enforceable_at : ℕ → Answer
not_enforceable_at place = Err (NotEnforceable place)

abbrev pub unguarded_at : ℕ → Answer
unguarded_at place = Err (Unguarded place)

-- the variable y
abbrev pub var_y : VarId
var_y = record { 0 = 1 }

-- p(), q(), p(x), q(x) and p(x, y) at a place
abbrev pub p_at : ℕ → Formula
p_at place = tree.Atom place name_p []

abbrev pub q_at : ℕ → Formula
q_at place = tree.Atom place name_q []

abbrev pub p_x_at : ℕ → Formula
p_x_at place = tree.Atom place name_p (Var variable_x ∷ [])

abbrev pub q_x_at : ℕ → Formula
q_x_at place = tree.Atom place name_q (Var variable_x ∷ [])

abbrev pub p_x_y_at : ℕ → Formula
p_x_y_at place = tree.Atom place name_p (Var variable_x ∷ Var var_y ∷ [])

-- the leaves that suppress p() and p(x), and cause q() and q(x)
abbrev pub p_leaf : ℕ → Plan
p_leaf place = plan.SuppressPlan 0 place name_p []

abbrev pub p_x_leaf : ℕ → Plan
p_x_leaf place = plan.SuppressPlan 0 place name_p (Var variable_x ∷ [])

abbrev pub q_leaf : ℕ → Plan
q_leaf place = plan.CausePlan 0 place name_q []

abbrev pub q_x_leaf : ℕ → Plan
q_x_leaf place = plan.CausePlan 0 place name_q (Var variable_x ∷ [])

-- once[0,*] p() and once[0,*] q()
abbrev pub once_p : Formula
once_p = tree.Once 20 (interval_from 0) (p_at 21)

abbrev pub once_q : Formula
once_q = tree.Once 20 (interval_from 0) (q_at 21)

-- eventually within 5 units of time
abbrev pub within_5 : ℕ → Formula → Formula
within_5 place f = tree.Eventually place (interval_between 0 5) f

-- p(text) -; q(text) +;
abbrev pub text_entries : List NameEntry
text_entries =
    record { text = codes "p"; sorts = sort.Text ∷ []; causable = false; suppressible = true }
    ∷ record { text = codes "q"; sorts = sort.Text ∷ []; causable = true; suppressible = false } ∷ []

-- p(int); q(text)
abbrev pub int_and_text_entries : List NameEntry
int_and_text_entries =
    record { text = codes "p"; sorts = sort.Int ∷ []; causable = false; suppressible = false }
    ∷ record { text = codes "q"; sorts = sort.Text ∷ []; causable = false; suppressible = false } ∷ []

-- the text `a`
abbrev pub text_a : Value
text_a = values.Text (codes "a")

-- x = a, p(x) and x = a, and (exists y. y = x and q(y)) since[0,*] p(x)
abbrev pub x_is_a : Formula
x_is_a = tree.Equal 1 (Var variable_x) (Const text_a)

abbrev pub number_is_a : Formula
number_is_a = tree.And 2 (p_x_at 1) (tree.Equal 3 (Var variable_x) (Const text_a))

abbrev pub other_since : Formula
other_since = tree.Since 2 (interval_from 0)
    (tree.Exists 3 (var_y ∷ []) (tree.And 4 (tree.Equal 5 (Var var_y) (Var variable_x))
    (tree.Atom 6 name_q (Var var_y ∷ []))))
    (p_x_at 1)

-- a step with p() of the value
abbrev pub one_p : Value → List Step
one_p value = record { time = 0; events = record { name = name_p; args = value ∷ [] } ∷ [] } ∷ []
