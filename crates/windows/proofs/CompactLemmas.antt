-- What is left where rows without times, and dues of times that went, are taken out.
use Rattle.windows.proofs.Vocabulary.{◌≡◌, ◌∙◌, ◌⊎◌, ◌↔◌, inl, inr, ⊎_elim, none-some, slice_get, AreLeastTimes, ℕ, zero, suc, ◌+◌, ◌≤◌, ◌-◌, List, [], ◌∷◌, ◌++◌, length, map, drop, All, Contains}
use Rattle.windows.proofs.Vocabulary.{Option, None, Some, refl, sym, ap, subst, arith, All-nil, all_from, none_in_nil, append_assoc, Value, VarId, Interval, HasNoRepeats, IfSome, AreWindowEntries}
use Rattle.windows.proofs.Vocabulary.{AreLeast, AddAtMost, AddsTimes, KeepsRows, IsWindow, Due, Queue, AreInReach, AreQueued, AreUpToTime, HasTimeAt, IsCompact, IsQueueAt, due, dues_from, waiting_of}
use Rattle.windows.proofs.Vocabulary.{count_pairs, count_times, kept_entries, values_of, HasTime, HasBehind}
use Rattle.windows.specs.machine.RowIndexes.{IsIndexOf, PartIndex}
use Rattle.windows.specs.machine.WindowEntries.{rows_of}
use Rattle.windows.proofs.EntryLemmas.{fit_of, least_with, served_by}
use Rattle.windows.proofs.ExpiryLemmas.{behind_among}
use Rattle.windows.proofs.PlaceLemmas.{count_kept, dues_known, dues_there, kept_within}
use Rattle.windows.proofs.TimeLemmas.{least_live, up_to}

-- ---- the queue of all times

pub dues_next : (all : List Due) (place next : ℕ) (out after : List Due) (left rest : List (List ℕ)) (times : List ℕ) → left ≡ times ∷ rest → next ≡ suc place
    → after ≡ out ++ map (λ time. due time place) times → out ++ dues_from place left ≡ all → after ++ dues_from next rest ≡ all
dues_next all place next out after left rest times is step grown before =
    (λ i. grown i ++ dues_from (step i) rest) ∙ append_assoc out (map (λ time. due time place) times) (dues_from (suc place) rest) ∙ ap (λ l. out ++ dues_from place l) (sym is) ∙ before

module _ (interval : Interval) (now long : ℕ) (es : List (List Value × List ℕ)) (kept : AreWindowEntries long now es) (least : AreLeast interval now es) (queue : Queue) where
  -- where there is no end
  pub none_queued : interval.high ≡ None → queue.dues ≡ [] → IsQueueAt interval now es queue
  none_queued endless none = record {
    up_to = subst (AreUpToTime now) (sym none) (All-nil _);
    in_reach = subst (λ h. AreInReach h now queue.dues) (sym endless) none;
    queued = λ high is. absurd (not_both interval.high high endless is);
  }
    where
      not_both : (o : Option ℕ) (high : ℕ) → o ≡ None → o ≡ Some high → ⊥
      not_both o high none is = none-some high (sym none ∙ is)

  module _ (first : queue.far ≡ 0) (dues : (d : Due) → Contains queue.dues d ↔ Contains (dues_from 0 (values_of es)) d) (ends : interval.high ≡ None → ⊥) where
    pub all_queued : IsQueueAt interval now es queue
    all_queued = record {
      up_to = all_from (λ d. d.time ≤ now) queue.dues (λ d there.
          let known = dues_known 0 es d ((dues d).0 there) in up_to now known.0.1 d.time (fit_of long now es known.0.0 known.0.1 kept known.1).1 known.2);
      in_reach = in_reach interval.high refl;
      queued = λ high is. record {
        times = there;
        waiting = λ place time has. subst (λ n. Contains (drop n queue.dues) (due time place)) (sym first) (there place time (has.0, has.1, behind_among has.0.1 time has.2));
      };
    }
      where
        there : (place time : ℕ) → HasTimeAt es place time → Contains queue.dues (due time place)
        there place time has = (dues (due time place)).1 (subst (λ p. Contains (dues_from 0 (values_of es)) (due time p)) (omega arith) (dues_there 0 es place time has))

        in_reach : (high : Option ℕ) → high ≡ interval.high → AreInReach high now queue.dues
        in_reach None is = absurd (ends (sym is))
        in_reach (Some high) is = all_from (λ d. now - d.time ≤ high) queue.dues (λ d there.
            let known = dues_known 0 es d ((dues d).0 there) in
            least_live high interval.low now known.0.1 (fit_of long now es known.0.0 known.0.1 kept known.1).1
            (subst (λ h. AreLeastTimes h interval.low now known.0.1) (sym is) (least_with interval now es known.0.0 known.0.1 d.time least known.1 known.2)) d.time known.2)

-- ---- what is left

pub compact_kept : (es after : List (List Value × List ℕ)) (queue : Queue) → after ≡ kept_entries es → length queue.dues ≤ count_pairs after → IsCompact after queue
compact_kept es after queue is dues = record {
  rows = omega (arith, kept_within es, count_kept es, ap length is, ap count_pairs is);
  dues = omega (arith, dues);
}

-- a time was added, and then rows without times were taken out
pub at_most_kept : (now : ℕ) (R : List Value → Type 0) (es middle after : List (List Value × List ℕ)) → AddAtMost now R es middle → KeepsRows (λ row. Unit {0}) middle after → AddAtMost now R es after
at_most_kept now R es middle after adds keeps = record {
  from = λ row time has. adds.from row time ((keeps.exact row time).0 has).0;
  behind = λ row time has. ⊎_elim (λ before. adds.behind row time (has.0, before, has.2))
      (λ gone. absurd (none_in_nil time (subst (λ (l : List ℕ). Contains (drop 1 l) time) gone.0 has.2))) (keeps.among (row, has.0) has.1);
}

pub adds_kept : (interval : Interval) (now : ℕ) (R : List Value → Type 0) (es middle after : List (List Value × List ℕ)) → AddsTimes interval now R es middle
    → KeepsRows (λ row. Unit {0}) middle after → AddsTimes interval now R es after
adds_kept interval now R es middle after adds keeps = record {
  serves = λ row time has. ⊎_elim (λ by. inl (served_by interval.high interval.low now (HasTime middle row) (HasTime after row) time (λ t there. (keeps.exact row t).1 (there, tt)) by))
      (λ ended. inr ended) (adds.serves row time has);
  added = λ row holds. served_by interval.high interval.low now (HasTime middle row) (HasTime after row) now (λ t there. (keeps.exact row t).1 (there, tt)) (adds.added row holds);
}

-- where nothing is left
pub nothing_held : (interval : Interval) (columns : List VarId) (last : ℕ) (es : List (List Value × List ℕ)) (queue : Queue) (index : Option PartIndex) → HasNoRepeats columns → es ≡ []
    → queue ≡ record { dues = []; far = 0 } → index ≡ None → IsWindow interval columns last es queue index 0
nothing_held interval columns last es queue index distinct none empty gone =
    subst (λ l. IsWindow interval columns last l queue index 0) (sym none) (subst (λ q. IsWindow interval columns last [] q index 0) (sym empty)
    (subst (λ i. IsWindow interval columns last [] (record { dues = []; far = 0 }) i 0) (sym gone) (record {
      distinct = distinct;
      kept = record { fit = All-nil _; unique = tt };
      least = All-nil _;
      queued = record {
        up_to = All-nil _;
        in_reach = in_reach interval.high;
        queued = λ high is. record {
          times = λ place time has. absurd (no_row place has.0 has.1);
          waiting = λ place time has. absurd (no_row place has.0 has.1);
        };
      };
      indexed = tt;
      compact = record { rows = omega arith; dues = omega arith };
      counted = omega arith;
    })))
  where
    in_reach : (high : Option ℕ) → AreInReach high last []
    in_reach None = refl
    in_reach (Some high) = All-nil _

    no_row : (place : ℕ) (e : List Value × List ℕ) → slice_get [] place ≡ Some e → ⊥
    no_row place e is = none-some e is
