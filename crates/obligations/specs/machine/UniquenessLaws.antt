-- Of each plan, instance and trace there is one answer at most.
use Rattle.enf_data.specs.declared.steps.Step.{Step}
use Rattle.enf_data.specs.declared.terms.VarId.{VarId}
use Rattle.enf_data.specs.declared.values.Value.{Value}
use Rattle.enf_data.specs.meaning.Valuations.{Valuation}
use Rattle.std.specs.Prelude.{◌≡◌, List, ℕ, Bool}
use Rattle.enf_formula.specs.meaning.Satisfaction.{Formula}
use Rattle.plan_terms.specs.meaning.Plans.{Plan}
use Rattle.obligations.specs.declared.instances.Instance.{Instance}
use Rattle.obligations.specs.declared.literals.Literal.{Literal}
use Rattle.obligations.specs.meaning.Obligations.{Begun, Missing, AreGuardRows}
use Rattle.obligations.specs.meaning.Pending.{MissingOf, After, Pend}

-- a plan misses one list of literals at most
abbrev pub MissingIsOne : Type 0
MissingIsOne = (trace : List Step) (plan : Plan) (v : Valuation) (literals others : List Literal)
    → Missing trace plan v literals → Missing trace plan v others → literals ≡ others

-- a plan begins one list of instances at most
abbrev pub BegunIsOne : Type 0
BegunIsOne = (trace : List Step) (rule : ℕ) (plan : Plan) (v : Valuation) (begun others : List Instance)
    → Begun trace rule plan v begun → Begun trace rule plan v others → begun ≡ others

abbrev pub MissingOfIsOne : Type 0
MissingOfIsOne = (plans : List Plan) (trace : List Step) (i : Instance) (forced : Bool)
    (literals others : List Literal) → MissingOf plans trace i forced literals
    → MissingOf plans trace i forced others → literals ≡ others

abbrev pub AfterIsOne : Type 0
AfterIsOne = (plans : List Plan) (trace : List Step) (i : Instance) (after others : List Instance)
    → After plans trace i after → After plans trace i others → after ≡ others

abbrev pub PendIsOne : Type 0
PendIsOne = (plans : List Plan) (trace : List Step) (pending others : List Instance)
    → Pend plans trace pending → Pend plans trace others → pending ≡ others

-- a guard has one list of rows at most
abbrev pub RowsAreOne : Type 0
RowsAreOne = (trace : List Step) (v : Valuation) (xs : List VarId) (guard : Formula)
    (rows others : List (List Value)) → AreGuardRows trace v xs guard rows → AreGuardRows trace v xs guard others
    → rows ≡ others
