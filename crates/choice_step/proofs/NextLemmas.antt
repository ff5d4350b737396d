-- What is to be done next, seen by one call after another.
use Rattle.choice_step.proofs.Vocabulary.{◌≡◌, ◌≤◌, ℕ, List, [], Event, NameId, Situation, arith, refl}
use Rattle.choice_step.specs.declared.first_missing.Next.{Next}
use Rattle.choice_step.specs.declared.first_missing.Next.TheVariants as next
use Rattle.choice_step.specs.declared.unasked.Unasked.{Unasked}
use Rattle.choice_step.specs.machine.StillToAsk.{IsFirstNext, IsForSome, IsNextFor, IsNextOf, IsOfInstance}

-- where it is not that nothing is missing, it does not matter what is known then
pub not_done : (situation : Situation) (given events : List Event) (stale : List NameId) (before done : Type 0) (found : Next)
    → (found ≡ next.Done → ⊥) → IsNextFor situation given events stale before found → IsNextFor situation given events stale done found
not_done situation given events stale before done (next.Act action) not is = is
not_done situation given events stale before done (next.ActFor missed) not is = is
not_done situation given events stale before done next.Renew not is = is
not_done situation given events stale before done next.Done not is = absurd (not refl)

-- an instance is no root without choices
pub first_of_instance : (unasked : Unasked) (found : Next) → IsOfInstance found → IsFirstNext unasked found
first_of_instance unasked (next.Act action) is = tt
first_of_instance unasked (next.ActFor missed) is = absurd is
first_of_instance unasked next.Renew is = tt
first_of_instance unasked next.Done is = tt

-- a root is the first to be asked, where none is pending to be asked
pub first_of_root : (unasked : Unasked) (rule : ℕ) (found : Next) → unasked.asking.ahead ≡ [] → rule ≤ unasked.from → IsNextOf rule found → IsFirstNext unasked found
first_of_root unasked rule (next.Act action) none within is = tt
first_of_root unasked rule (next.ActFor missed) none within is = (none, omega (arith, within, is))
first_of_root unasked rule next.Renew none within is = tt
first_of_root unasked rule next.Done none within is = tt

-- something was done, where nothing is to be done
abbrev pub HasActed : (acted : Type 0) → Next → Type 0
HasActed acted (next.Act action) = Unit {0}
HasActed acted (next.ActFor missed) = Unit {0}
HasActed acted next.Renew = acted
HasActed acted next.Done = acted

pub acts_first : (acted : Type 0) (found : Next) → IsForSome found → HasActed acted found
acts_first acted (next.Act action) is = tt
acts_first acted (next.ActFor missed) is = tt
acts_first acted next.Renew is = absurd is
acts_first acted next.Done is = absurd is

pub has_acted : (acted : Type 0) (found : Next) → acted → HasActed acted found
has_acted acted (next.Act action) is = tt
has_acted acted (next.ActFor missed) is = tt
has_acted acted next.Renew is = is
has_acted acted next.Done is = is
