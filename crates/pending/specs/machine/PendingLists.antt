-- A list of pending instances, with its deadlines and with what it waits for.
use Rattle.std.specs.Coded.{Coded, coded_ℕ, coded_list, coded_option, coded×, code_by}
use Rattle.std.specs.List.{AllByRecursion, count_by}
use Rattle.std.specs.Prelude.{ℕ, List, Option, refl, ◌≡◌, ◌==◌, map}
use Rattle.plan_terms.specs.meaning.Plans.{Plan}
use Rattle.sleepers.specs.declared.patterns.Pattern.{Pattern}
use Rattle.obligations.specs.declared.instances.Instance.{Instance}
use Rattle.obligations.specs.machine.Deadlines.{count_due}
use Rattle.pending.specs.machine.Waits.{IsWaitOf, Listed}
use Rattle.sleepers.specs.contracts.patterns.Pattern as stored_pattern
use Rattle.obligations.specs.contracts.instances.Instance as stored

-- instances, the deadlines among their windows' ends, and each instance with what it waits for
pub record PendingList : Type 0 where
  pub instances : List Instance
  pub deadlines : List ℕ
  pub listed : List Listed

-- stored as the triple of these
abbrev pub listed_code : Coded Listed
listed_code =
    code_by (Option (List Pattern) × (ℕ × Instance))
    (coded× (coded_option (coded_list stored_pattern.the_row.coded)) (coded× coded_ℕ stored.the_row.coded))
    (λ x. (x.wait.patterns, (x.wait.until, x.instance)))
    (λ x. record { wait = record { patterns = x.0; until = x.1.0 }; instance = x.1.1 })
    (λ _. refl)

abbrev pub pending_code : Coded PendingList
pending_code =
    code_by (List Instance × (List ℕ × List Listed))
    (coded× (coded_list stored.the_row.coded) (coded× (coded_list coded_ℕ) (coded_list listed_code)))
    (λ p. (p.instances, (p.deadlines, p.listed))) (λ p. record { instances = p.0; deadlines = p.1.0; listed = p.1.1 })
    (λ _. refl)

abbrev pub listed_instances : List Listed → List Instance
listed_instances listed = map (λ x. x.instance) listed

-- the deadlines are those of the instances, each as often as an instance has it, and each of these waits for what can
-- change it
pub record IsPendingListOf (plans : List Plan) (pending : PendingList) : Type 0 where
  pub due : (deadline : ℕ)
      → count_by (λ entry. entry == deadline) pending.deadlines ≡ count_due plans pending.instances deadline
  pub instances : listed_instances pending.listed ≡ pending.instances
  pub waits : AllByRecursion (λ x. IsWaitOf plans x.wait x.instance) pending.listed
