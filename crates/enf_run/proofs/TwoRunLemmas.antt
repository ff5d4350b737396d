-- What two runs give that take one log, the second after the first, is what one run gives.
use Rattle.enf_run.proofs.Vocabulary.{◌≡◌, ℕ, ◌+◌, ◌^◌, ◌<◌, ◌≤◌, true, false, List, [], ◌∷◌, ◌++◌, length, drop, take, refl, sym, ap, subst, ◌∙◌, append_assoc, arith, inl, inr, length-append, ◌⊎◌}
use Rattle.enf_run.proofs.Vocabulary.{cases_lt, append_cancel_left, map-append, take-append-drop, take-append-le, take_at, flat_map-append, Formula, IsTrace, Step, Good, Satisfies, Lawful, IsWithin}
use Rattle.enf_run.proofs.Vocabulary.{OutStep, trace_of, Start, NeverFall, Record, clock_after, recorded, ClockRises, SatisfyingIsGood, recorded_join, Rule, Plan, entry_names as names_of, NameEntry}
use Rattle.enf_run.proofs.Vocabulary.{is_causable, is_suppressible, OnePlans, steps_behind, follows_join, follows_split, justified_join, ActedStep, out_step, out_steps, as_it_came, untouched}
use Rattle.enf_run.proofs.Vocabulary.{AllAreJustified, steps_of, Follows, FollowsDrain, AreDistinct, FollowsPolicy, FollowsToEnd, IsJustifiedByPolicy, text_of, SpellsRecords, behind_blanks}
use Rattle.enf_run.proofs.Vocabulary.{SpellsRecords-append, behind-append, behind_more, LogItem, LogMode, Input, Stream, IsOwedAtEnd, taken_log_of, LogEndsWithStatus, IsAnsweredLog, IsLineFront}
use Rattle.enf_run.proofs.Vocabulary.{IsRestRefusedFor, IsTakenToEnd, action_lines, step_action_lines, most_log_bytes, record_of, records_of, IsReadyState, IsStateText, all_formulas, IsOwedInAll}
use Rattle.enf_run.proofs.Vocabulary.{IsOwedSoFar, LogSetting, enforced_from, policy_of, AreNumberedLines, IsLastBehind, KeptBehindSaved, SavedBehindSaved, SavedIsAsked, record_head, start_after}
use Rattle.enf_run.proofs.Vocabulary.{GivesJoins, TwoRunJoins, OwedIsOne, OwedJoins, RunsAreOne, setting_after, setting_behind, Status}
use Rattle.std.specs.Prelude.{codes}
use Rattle.enf_run.proofs.TwoRunJoinLemmas.{falls_behind, falls_first, good_first, lawful_join, recorded_is_trace}
use Rattle.enf_run.proofs.LineLemmas.{lines_behind}
use Rattle.enf_run.proofs.LogLemmas.{read_distinct}
use Rattle.enf_run.proofs.TwoRunEndLemmas.{EndsOn, OneLog, ends_one, ends_over, ends_stop}
use Rattle.enf_run.proofs.OneReadingLemmas.{OneRecordAnswer, begins_blanks, read_same}
use Rattle.enf_run.proofs.SavedStateLemmas.{same_trace}
use Rattle.enf_run.specs.declared.refusals.Status.TheVariants as statuses

-- ---- what is emitted

out_join : (out more : List ActedStep) → out_steps (out ++ more) ≡ out_steps out ++ out_steps more
out_join out more = map-append out_step out more

-- the trace after both
pub trace_join : (trace : List Step) (out more : List ActedStep)
    → (trace ++ trace_of (out_steps out)) ++ trace_of (out_steps more) ≡ trace ++ trace_of (out_steps (out ++ more))
trace_join trace out more =
    append_assoc trace (trace_of (out_steps out)) (trace_of (out_steps more))
    ∙ ap (λ (steps : List Step). trace ++ steps)
    (sym (ap trace_of (out_join out more) ∙ map-append (λ (o : OutStep). o.step) (out_steps out) (out_steps more)))

untouched_trace : (steps : List Step) → trace_of (out_steps (untouched steps)) ≡ steps
untouched_trace [] = refl
untouched_trace (step ∷ steps) = ap (λ (others : List Step). step ∷ others) (untouched_trace steps)

untouched_join : (records more : List Record)
    → untouched (recorded records) ++ untouched (recorded more) ≡ untouched (recorded (records ++ more))
untouched_join records more = sym (map-append as_it_came (recorded records) (recorded more)) ∙ ap untouched (sym (recorded_join records more))

-- the steps of all records after a trace are those of the others after what is emitted for the first ones untouched
behind_untouched : (trace : List Step) (records more : List Record) (out : List ActedStep) → out ≡ untouched (recorded records)
    → trace ++ recorded (records ++ more) ≡ (trace ++ trace_of (out_steps out)) ++ recorded more
behind_untouched trace records more out is =
    ap (λ (steps : List Step). trace ++ steps) (recorded_join records more) ∙ sym (append_assoc trace (recorded records) (recorded more))
    ∙ ap (λ (steps : List Step). (trace ++ steps) ++ recorded more)
    (sym (untouched_trace (recorded records)) ∙ ap (λ (o : List ActedStep). trace_of (out_steps o)) (sym is))

-- ---- what a policy decides

module _ (one_plans : OnePlans) (entries : List NameEntry) (policy : List Formula) (trace : List Step) (records more : List Record) (out others : List ActedStep) where
  abbrev middle : List Step
  middle = trace ++ trace_of (out_steps out)

  middle_is : trace ++ steps_of out ≡ middle
  middle_is = ap (λ (steps : List Step). trace ++ steps) (sym (same_trace out))

  pub justified_both : IsJustifiedByPolicy entries policy trace records out → IsJustifiedByPolicy entries policy middle more others
      → IsJustifiedByPolicy entries policy trace (records ++ more) (out ++ others)
  justified_both first last =
      let same : last.plans ≡ first.plans = (one_plans entries policy last.plans first.plans last.guards first.guards last.planned first.planned).0 in
      let by_plans = subst (λ (plans : List Plan). AllAreJustified plans middle (recorded more) others) same last.justified in
      let behind_it = subst (λ (steps : List Step). AllAreJustified first.plans steps (recorded more) others) (sym middle_is) by_plans in
      record {
        plans = first.plans;
        guards = first.guards;
        planned = first.planned;
        justified = subst (λ (steps : List Step). AllAreJustified first.plans trace steps (out ++ others)) (sym (recorded_join records more))
            (justified_join first.plans trace (recorded records) (recorded more) out others first.justified behind_it);
      }

  pub follows_both : FollowsPolicy entries policy trace records out → FollowsPolicy entries policy middle more others
      → FollowsPolicy entries policy trace (records ++ more) (out ++ others)
  follows_both first last =
      let same : last.plans ≡ first.plans = (one_plans entries policy last.plans first.plans last.guards first.guards last.planned first.planned).0 in
      let by_plans = subst (λ (plans : List Plan). Follows plans middle more others) same last.follows in
      record {
        plans = first.plans;
        guards = first.guards;
        planned = first.planned;
        follows = follows_join first.plans trace records more out others first.follows
            (subst (λ (steps : List Step). Follows first.plans steps more others) (sym middle_is) by_plans);
      }

  -- after steps that are emitted after the trace in the middle
  middle_behind : (steps : List ActedStep) → middle ++ steps_of steps ≡ trace ++ steps_of (out ++ steps)
  middle_behind steps = ap (λ (front : List Step). front ++ steps_of steps) (sym middle_is) ∙ steps_behind trace out steps

  pub follows_both_to_end : FollowsPolicy entries policy trace records out → FollowsToEnd entries policy middle more others
      → FollowsToEnd entries policy trace (records ++ more) (out ++ others)
  follows_both_to_end first last =
      let same : last.plans ≡ first.plans = (one_plans entries policy last.plans first.plans last.guards first.guards last.planned first.planned).0 in
      let by_plans = subst (λ (plans : List Plan). Follows plans middle more last.first) same last.follows in
      let drained = subst (λ (plans : List Plan). FollowsDrain plans (middle ++ steps_of last.first) last.last) same last.drained in
      record {
        plans = first.plans;
        guards = first.guards;
        planned = first.planned;
        first = out ++ last.first;
        last = last.last;
        split = ap (λ (steps : List ActedStep). out ++ steps) last.split ∙ sym (append_assoc out last.first last.last);
        follows = follows_join first.plans trace records more out last.first first.follows
            (subst (λ (steps : List Step). Follows first.plans steps more last.first) (sym middle_is) by_plans);
        drained = subst (λ (steps : List Step). FollowsDrain first.plans steps last.last) (middle_behind last.first) drained;
      }

  -- and no others
  module _ (only : (steps : List ActedStep) → FollowsPolicy entries policy trace records steps → steps ≡ out) where
    pub only_both : ((steps : List ActedStep) → FollowsPolicy entries policy middle more steps → steps ≡ others)
        → (steps : List ActedStep) → FollowsPolicy entries policy trace (records ++ more) steps → steps ≡ out ++ others
    only_both then steps all =
        let s = follows_split all.plans trace records more steps all.follows in
        let first : s.first ≡ out = only s.first (record { plans = all.plans; guards = all.guards; planned = all.planned; follows = s.follows }) in
        let at : trace ++ steps_of s.first ≡ middle = ap (λ (l : List ActedStep). trace ++ steps_of l) first ∙ middle_is in
        let last : s.last ≡ others =
        then s.last (record {
          plans = all.plans;
          guards = all.guards;
          planned = all.planned;
          follows = subst (λ (front : List Step). Follows all.plans front more s.last) at s.later;
        }) in
        s.split ∙ (λ i. first i ++ last i)

    pub only_both_to_end : ((steps : List ActedStep) → FollowsToEnd entries policy middle more steps → steps ≡ others)
        → (steps : List ActedStep) → FollowsToEnd entries policy trace (records ++ more) steps → steps ≡ out ++ others
    only_both_to_end then steps all =
        let s = follows_split all.plans trace records more all.first all.follows in
        let first : s.first ≡ out = only s.first (record { plans = all.plans; guards = all.guards; planned = all.planned; follows = s.follows }) in
        let at : trace ++ steps_of s.first ≡ middle = ap (λ (l : List ActedStep). trace ++ steps_of l) first ∙ middle_is in
        let end : trace ++ steps_of all.first ≡ middle ++ steps_of s.last =
        ap (λ (l : List ActedStep). trace ++ steps_of l) s.split ∙ sym (steps_behind trace s.first s.last) ∙ ap (λ (front : List Step). front ++ steps_of s.last) at in
        let last : s.last ++ all.last ≡ others =
        then (s.last ++ all.last) (record {
          plans = all.plans;
          guards = all.guards;
          planned = all.planned;
          first = s.last;
          last = all.last;
          split = refl;
          follows = subst (λ (front : List Step). Follows all.plans front more s.last) at s.later;
          drained = subst (λ (front : List Step). FollowsDrain all.plans front all.last) end all.drained;
        }) in
        all.split ∙ ap (λ (l : List ActedStep). l ++ all.last) s.split ∙ append_assoc s.first s.last all.last ∙ (λ i. first i ++ last i)

-- ---- under the transparent mark

module _ (rises : ClockRises) (policy : List Formula) (trace : List Step) (records more : List Record) (out others : List ActedStep) (clock : ℕ)
    (fall : NeverFall clock more) (first : Good policy (trace ++ recorded records) clock → out ≡ untouched (recorded records)) where
  pub alone_both : (Good policy ((trace ++ trace_of (out_steps out)) ++ recorded more) (clock_after clock more) → others ≡ untouched (recorded more))
      → Good policy (trace ++ recorded (records ++ more)) (clock_after clock more) → out ++ others ≡ untouched (recorded (records ++ more))
  alone_both last good =
      let is : out ≡ untouched (recorded records) = first (good_first rises policy trace clock records more fall good) in
      let then : others ≡ untouched (recorded more) =
      last (subst (λ (steps : List Step). Good policy steps (clock_after clock more)) (behind_untouched trace records more out is) good) in
      (λ i. is i ++ then i) ∙ untouched_join records more

  pub alone_both_to_end : SatisfyingIsGood → IsTrace (trace ++ recorded (records ++ more))
      → (Satisfies ((trace ++ trace_of (out_steps out)) ++ recorded more) policy → others ≡ untouched (recorded more))
      → Satisfies (trace ++ recorded (records ++ more)) policy → out ++ others ≡ untouched (recorded (records ++ more))
  alone_both_to_end satisfying t last satisfied =
      let good : Good policy (trace ++ recorded (records ++ more)) (clock_after clock more) =
      satisfying policy (trace ++ recorded (records ++ more)) (clock_after clock more) t satisfied in
      let is : out ≡ untouched (recorded records) = first (good_first rises policy trace clock records more fall good) in
      let then : others ≡ untouched (recorded more) =
      last (subst (λ (steps : List Step). Satisfies steps policy) (behind_untouched trace records more out is) satisfied) in
      (λ i. is i ++ then i) ∙ untouched_join records more

-- ---- what is owed

module _ (laws : TwoRunJoins) (s : LogSetting) (records more : List Record) (out others : List ActedStep) (fall : NeverFall s.start.clock (records ++ more)) where
  abbrev policy : List Formula
  policy = policy_of s

  abbrev clock : ℕ
  clock = clock_after s.start.clock records

  abbrev trace : List Step
  trace = s.start.trace

  abbrev then_fall : NeverFall clock more
  then_fall = falls_behind s.start.clock records more fall

  lawful_both : IsTrace ((trace ++ trace_of (out_steps out)) ++ trace_of (out_steps others)) → IsWithin s.start.clock clock (out_steps out)
      → Lawful (is_causable s.entries) (is_suppressible s.entries) records (out_steps out)
      → Lawful (is_causable s.entries) (is_suppressible s.entries) more (out_steps others)
      → Lawful (is_causable s.entries) (is_suppressible s.entries) (records ++ more) (out_steps (out ++ others))
  lawful_both is_trace within first last =
      subst (Lawful (is_causable s.entries) (is_suppressible s.entries) (records ++ more)) (sym (out_join out others))
      (lawful_join (is_causable s.entries) (is_suppressible s.entries) trace clock records more (out_steps out) (out_steps others) within.until then_fall
      (subst IsTrace (append_assoc trace (trace_of (out_steps out)) (trace_of (out_steps others))) is_trace) first last)

  so_far_both : IsOwedSoFar s records out → IsOwedSoFar (setting_behind s records out) more others → IsOwedSoFar s (records ++ more) (out ++ others)
  so_far_both first last =
      let same_clock = sym (laws.clock s.start.clock records more) in
      let good = last.so_far.good in
      record {
        lawful = lawful_both (laws.is_trace policy ((trace ++ trace_of (out_steps out)) ++ trace_of (out_steps others)) (clock_after clock more) good)
            first.so_far.within first.lawful last.lawful;
        so_far = record {
          within = subst (IsWithin s.start.clock (clock_after s.start.clock (records ++ more))) (sym (out_join out others))
              (subst (λ (end : ℕ). IsWithin s.start.clock end (out_steps out ++ out_steps others)) same_clock
              (laws.within s.start.clock clock (clock_after clock more) (out_steps out) (out_steps others)
              (laws.rises s.start.clock records (falls_first s.start.clock records more fall)) (laws.rises clock more then_fall)
              first.so_far.within last.so_far.within));
          good = subst (Good policy (trace ++ trace_of (out_steps (out ++ others)))) same_clock
              (subst (λ (steps : List Step). Good policy steps (clock_after clock more)) (trace_join trace out others) good);
          alone = λ marked all. alone_both laws.rises policy trace records more out others clock then_fall (first.so_far.alone marked) (last.so_far.alone marked)
              (subst (Good policy (trace ++ recorded (records ++ more))) (laws.clock s.start.clock records more) all);
        };
        justified = justified_both laws.plans s.entries policy trace records more out others first.justified last.justified;
        decided = follows_both laws.plans s.entries policy trace records more out others first.decided last.decided;
        only = only_both laws.plans s.entries policy trace records more out others first.only last.only;
      }

  in_all_both : AreDistinct (records ++ more) → IsOwedSoFar s records out → IsOwedInAll (setting_behind s records out) more others
      → IsOwedInAll s (records ++ more) (out ++ others)
  in_all_both distinct first last =
      let lawful = lawful_both last.is_trace first.so_far.within first.lawful last.lawful in
      let whole : IsTrace (trace ++ trace_of (out_steps (out ++ others))) = subst IsTrace (trace_join trace out others) last.is_trace in
      let of_records =
      recorded_is_trace laws.satisfying laws.front laws.is_trace laws.grows laws.new (is_causable s.entries) (is_suppressible s.entries)
      trace (records ++ more) (out_steps (out ++ others)) distinct whole lawful in
      record {
        lawful = lawful;
        is_trace = whole;
        satisfied = subst (λ (steps : List Step). Satisfies steps policy) (trace_join trace out others) last.satisfied;
        justified = justified_both laws.plans s.entries policy trace records more out others first.justified last.justified;
        decided = follows_both_to_end laws.plans s.entries policy trace records more out others first.decided last.decided;
        only = only_both_to_end laws.plans s.entries policy trace records more out others first.only last.only;
        alone = λ marked satisfied. alone_both_to_end laws.rises policy trace records more out others clock then_fall (first.so_far.alone marked)
            laws.satisfying of_records (last.alone marked) satisfied;
      }

pub owed_joins : TwoRunJoins → OwedJoins
owed_joins laws true s records more out others fall distinct first last = so_far_both laws s records more out others fall first last
owed_joins laws false s records more out others fall distinct first last = in_all_both laws s records more out others fall distinct first last

pub owed_is_one : OwedIsOne
owed_is_one true s records out others first last = last.only out first.decided
owed_is_one false s records out others first last = last.only out first.decided

-- ---- logs

-- blanks in front count for nothing
spells_blanks : (entries : List NameEntry) (mode : LogMode) (text other : List ℕ) (read : List LogItem) (rest : List ℕ) → behind_blanks text ≡ behind_blanks other
    → SpellsRecords entries mode text read rest → SpellsRecords entries mode other read rest
spells_blanks entries mode text other [] rest same spelled = spelled ∙ same
spells_blanks entries mode text other (item ∷ read) rest same (between, begins, later) =
    (between, begins_blanks entries mode text other item between same begins, later)

-- records, and more of them in what is left
spells_on : (entries : List NameEntry) (mode : LogMode) (text : List ℕ) (read more : List LogItem) (between rest : List ℕ)
    → SpellsRecords entries mode text read between → SpellsRecords entries mode between more rest → SpellsRecords entries mode text (read ++ more) rest
spells_on entries mode text [] more between rest first last = spells_blanks entries mode between text more rest first last
spells_on entries mode text (item ∷ read) more between rest (next, begins, later) last =
    (next, begins, spells_on entries mode next read more between rest later last)

-- a log of which nothing is left, and one after it
spells_both : (entries : List NameEntry) (mode : LogMode) (text other : List ℕ) (read more : List LogItem) (left rest : List ℕ)
    → SpellsRecords entries mode text read left → behind_blanks left ≡ [] → SpellsRecords entries mode other more rest
    → SpellsRecords entries mode (text ++ other) (read ++ more) rest
spells_both entries mode text other read more left rest first none last =
    spells_on entries mode (text ++ other) read more (left ++ other) rest (SpellsRecords-append entries mode text read left other first)
    (spells_blanks entries mode other (left ++ other) more rest (sym (behind-append left other ∙ ap (λ (l : List ℕ). behind_more l other) none)) last)

pub records_join : (read more : List LogItem) → records_of (read ++ more) ≡ records_of read ++ records_of more
records_join read more = map-append record_of read more

pub gives_joins : TwoRunJoins → GivesJoins
gives_joins laws left s taken given rest taken' given' rest' input first none second =
    let read : List LogItem = first.read ++ second.read in
    let of_both = sym (records_join first.read second.read) in
    let spelled : SpellsRecords s.entries s.mode (taken ++ taken') read rest' =
    spells_both s.entries s.mode taken taken' first.read second.read rest rest' first.accepts.spelled none second.accepts.spelled in
    let fall : NeverFall s.start.clock (records_of first.read ++ records_of second.read) =
    laws.records s.start.clock (records_of first.read) (records_of second.read) first.accepts.rising second.accepts.rising in
    let distinct : AreDistinct (records_of read) =
    read_distinct s.entries (taken ++ taken') read rest' (subst (λ (mode : LogMode). SpellsRecords s.entries mode (taken ++ taken') read rest') input spelled) in (
      record {
        read = read;
        accepts = record { spelled = spelled; rising = subst (NeverFall s.start.clock) of_both fall };
        out = first.out ++ second.out;
        text = (λ i. first.text i ++ second.text i) ∙ sym (lines_behind (names_of s.entries) first.out second.out);
        owed = subst (λ (records : List Record). IsOwedAtEnd left s records (first.out ++ second.out)) of_both
            (owed_joins laws left s (records_of first.read) (records_of second.read) first.out second.out fall
            (subst AreDistinct (records_join first.read second.read) distinct) first.owed second.owed);
      },
      record { read = refl; out = refl },
    )

-- ---- runs of logs

module _ (law : OneRecordAnswer) (one : OneLog) where
  pub runs_are_one : TwoRunJoins → RunsAreOne
  runs_are_one laws left s verdict other a a' b b' c c' input first second whole more more' over over' bytes =
      let joined = gives_joins laws left s first.taken first.given first.rest second.taken second.given second.rest input first.answers first.ends.0 second.answers in
      let both = joined.0 in
      let mine = whole.answers in
      let clock : clock_after (clock_after s.start.clock (records_of first.answers.read)) (records_of second.answers.read)
      ≡ clock_after s.start.clock (records_of both.read) =
      sym (ap (clock_after s.start.clock) (ap records_of joined.1.read ∙ records_join first.answers.read second.answers.read)
      ∙ laws.clock s.start.clock (records_of first.answers.read) (records_of second.answers.read)) in
      let at_end : ℕ = clock_after s.start.clock (records_of mine.read) in
      let end : ℕ = clock_after s.start.clock (records_of both.read) in
      let ends = ends_over (taken_log_of s mine.read whole.taken whole.rest) c.gate c'.gate other more' over' whole.ends in
      let ends_too = subst (λ (k : ℕ). EndsOn s.entries s.mode k (second.rest ++ more) verdict) clock
      (ends_over (taken_log_of (setting_after s first.answers) second.answers.read second.taken second.rest) b.gate b'.gate verdict more over second.ends) in
      let stops = ends_stop law s.entries s.mode at_end (whole.rest ++ more') other ends in
      let stops_too = ends_stop law s.entries s.mode end (second.rest ++ more) verdict ends_too in
      let spelled = subst (λ (l : List ℕ). SpellsRecords s.entries s.mode l mine.read (whole.rest ++ more')) (sym bytes)
      (SpellsRecords-append s.entries s.mode whole.taken mine.read whole.rest more' mine.accepts.spelled) in
      let spelled_too = SpellsRecords-append s.entries s.mode (first.taken ++ second.taken) both.read second.rest more both.accepts.spelled in
      let found = read_same law s.mode s.entries s.start.clock ((first.taken ++ second.taken) ++ more) mine.read (whole.rest ++ more') both.read (second.rest ++ more)
      stops stops_too spelled mine.accepts.rising spelled_too both.accepts.rising in
      let same : mine.read ≡ both.read = found.0 in
      let ends_so = subst (λ (read : List LogItem). EndsOn s.entries s.mode (clock_after s.start.clock (records_of read)) (whole.rest ++ more') other) same ends in
      let out : mine.out ≡ both.out =
      owed_is_one left s (records_of both.read) mine.out both.out
      (subst (λ (read : List LogItem). IsOwedAtEnd left s (records_of read) mine.out) same mine.owed) both.owed in (
        record { read = same ∙ joined.1.read; out = out ∙ joined.1.out },
        mine.text ∙ ap (λ (steps : List ActedStep). text_of (names_of s.entries) (out_steps steps)) out ∙ sym both.text,
        λ of of'. ends_one law s.entries s.mode end one (whole.rest ++ more') (second.rest ++ more) found.1 other verdict of' of ends_so ends_too,
      )

-- ---- the headline

-- a front of a line as it is with another number in it
numbered_line : (more number : ℕ) (words last : List ℕ) → IsLineFront (record_head number ++ words ++ codes "\n") last
    → (line : List ℕ) × AreNumberedLines more number last line × IsLineFront (record_head (more + number) ++ words ++ codes "\n") line
numbered_line more number words last (missing, is) = by (cases_lt (length last) (length head))
  where
    head : List ℕ
    head = record_head number

    head' : List ℕ
    head' = record_head (more + number)

    by : (length last < length head) ⊎ (length head ≤ length last)
        → (line : List ℕ) × AreNumberedLines more number last line × IsLineFront (record_head (more + number) ++ words ++ codes "\n") line
    by (inl short) = ([], inr (short, refl), (head' ++ words ++ codes "\n", refl))
    by (inr long) =
        let behind_head : List ℕ = drop (length head) last in
        let text : List ℕ = words ++ codes "\n" in
        let whole : head ++ text ≡ last ++ missing = sym (append_assoc head words (codes "\n")) ∙ is in
        let front : take (length head) last ≡ head =
        sym (take-append-le (length head) last missing long) ∙ ap (take (length head)) (sym whole) ∙ take_at head text (length head) refl in
        let split : last ≡ head ++ behind_head = sym (take-append-drop (length head) last) ∙ ap (λ (l : List ℕ). l ++ behind_head) front in
        let rest : text ≡ behind_head ++ missing =
        append_cancel_left head text (behind_head ++ missing)
        (whole ∙ ap (λ (l : List ℕ). l ++ missing) split ∙ append_assoc head behind_head missing) in (
          head' ++ behind_head,
          inl (behind_head, split, refl),
          (missing, append_assoc head' words (codes "\n") ∙ ap (λ (l : List ℕ). head' ++ l) rest ∙ sym (append_assoc head' behind_head missing)),
        )

module _ (laws : TwoRunJoins) (entries : List NameEntry) (rules : List Rule) (start : Start) (taken given taken' given' : List ℕ)
    (first : IsAnsweredLog entries rules start taken given) (none : behind_blanks first.rest ≡ [])
    (second : IsAnsweredLog entries rules (start_after start first) taken' given') where
  abbrev s : LogSetting
  s = enforced_from entries rules start

  abbrev read : List LogItem
  read = first.read ++ second.read

  abbrev front : List Record
  front = records_of first.read

  abbrev back : List Record
  back = records_of second.read

  abbrev out : List ActedStep
  out = first.out ++ second.out

  of_both : records_of read ≡ front ++ back
  of_both = records_join first.read second.read

  fall : NeverFall start.clock (front ++ back)
  fall = laws.records start.clock front back first.rising second.rising

  abbrev middle_clock : ℕ
  middle_clock = clock_after start.clock front

  clock_is : clock_after middle_clock back ≡ clock_after start.clock (records_of read)
  clock_is = sym (ap (clock_after start.clock) of_both ∙ laws.clock start.clock front back)

  spelled_both : SpellsRecords entries Input (taken ++ taken') read second.rest
  spelled_both = spells_both entries Input taken taken' first.read second.read first.rest second.rest first.spelled none second.spelled

  module _ (within : IsWithin start.clock middle_clock (out_steps first.out))
      (t : IsTrace ((start.trace ++ trace_of (out_steps first.out)) ++ trace_of (out_steps second.out))) where
    lawful_all : Lawful (is_causable entries) (is_suppressible entries) (front ++ back) (out_steps out)
    lawful_all = lawful_both laws s front back first.out second.out fall t within first.lawful second.lawful

    abbrev answered_both : IsAnsweredLog entries rules start (taken ++ taken') (given ++ given')
    answered_both = record {
      read = read;
      rest = second.rest;
      spelled = spelled_both;
      rising = subst (NeverFall start.clock) (sym of_both) fall;
      out = out;
      text = (λ i. first.text i ++ second.text i) ∙ sym (lines_behind (names_of entries) first.out second.out);
      lawful = subst (λ (records : List Record). Lawful (is_causable entries) (is_suppressible entries) records (out_steps out)) (sym of_both) lawful_all;
      justified = subst (λ (records : List Record). IsJustifiedByPolicy entries (all_formulas rules) start.trace records out) (sym of_both)
          (justified_both laws.plans entries (all_formulas rules) start.trace front back first.out second.out first.justified second.justified);
    }

    -- the steps of all records are a trace
    all_is_trace : IsTrace (start.trace ++ recorded (front ++ back))
    all_is_trace =
        recorded_is_trace laws.satisfying laws.front laws.is_trace laws.grows laws.new (is_causable entries) (is_suppressible entries)
        start.trace (front ++ back) (out_steps out)
        (subst AreDistinct of_both (read_distinct entries (taken ++ taken') read second.rest spelled_both))
        (subst IsTrace (trace_join start.trace first.out second.out) t) lawful_all

  -- the lines of the actions are those of both
  lines_of_both : action_lines entries rules first.out ++ action_lines entries rules second.out ≡ action_lines entries rules out
  lines_of_both = sym (flat_map-append (step_action_lines entries rules) first.out second.out)

  untouched_all : out ≡ untouched (recorded (front ++ back)) → out ≡ untouched (recorded (records_of read))
  untouched_all is = is ∙ ap (λ (records : List Record). untouched (recorded records)) (sym of_both)

  -- ---- how both end

  module _ (few : length (taken ++ taken') < most_log_bytes) where
    fewer : length taken' < most_log_bytes
    fewer = omega (arith, few, length-append taken taken')

    still_met : (gate : Stream) → IsTakenToEnd (length taken') gate → IsTakenToEnd (length (taken ++ taken')) gate
    still_met gate met = (few, met.1)

    refused_both : (gate : Stream) (words : List ℕ) → IsRestRefusedFor entries (clock_after middle_clock back) (length taken') second.rest gate words
        → IsRestRefusedFor entries (clock_after start.clock (records_of read)) (length (taken ++ taken')) second.rest gate words
    refused_both gate words refused =
        by (subst (λ (clock : ℕ). IsRestRefusedFor entries clock (length taken') second.rest gate words) clock_is refused)
      where
        by : IsRestRefusedFor entries (clock_after start.clock (records_of read)) (length taken') second.rest gate words
            → IsRestRefusedFor entries (clock_after start.clock (records_of read)) (length (taken ++ taken')) second.rest gate words
        by (inl refused) = inl refused
        by (inr (inl (truncated, met, is))) = inr (inl (truncated, still_met gate met, is))
        by (inr (inr (inl falling))) = inr (inr (inl falling))
        by (inr (inr (inr (pending, limit, is)))) = absurd (omega (arith, fewer, limit))

    -- how the second log ends, and the last line of the report
    abbrev EndsSecond : List ℕ → (gate gate' : Stream) → Status → Type 0
    EndsSecond last gate gate' result = LogEndsWithStatus entries middle_clock second.read taken' second.rest last gate gate' result

    -- ends both, with the same line but for the number in it
    record EndsBoth (last : List ℕ) (gate gate' : Stream) (result : Status) : Type 0 where
      pub line : List ℕ
      pub says : IsLastBehind (length first.read) (length second.read + 1) result last line
      pub ended : LogEndsWithStatus entries start.clock read (taken ++ taken') second.rest line gate gate' result

    number_is : length first.read + (length second.read + 1) ≡ length read + 1
    number_is = omega (arith, length-append first.read second.read)

    line_behind : (last : List ℕ) (gate gate' : Stream) (words : List ℕ)
        → IsRestRefusedFor entries (clock_after middle_clock back) (length taken') second.rest gate' words → gate'.read_faults ≡ gate.read_faults
        → IsLineFront (record_head (length second.read + 1) ++ words ++ codes "\n") last → EndsBoth last gate gate' statuses.Record
    line_behind last gate gate' words refused reads front =
        let l = numbered_line (length first.read) (length second.read + 1) words last front in record {
          line = l.0;
          says = l.1;
          ended = (
            words,
            refused_both gate' words refused,
            reads,
            subst (λ (n : ℕ). IsLineFront (record_head n ++ words ++ codes "\n") l.0) number_is l.2,
          );
        }

    ends_both : (last : List ℕ) (gate gate' : Stream) (result : Status) → EndsSecond last gate gate' result → EndsBoth last gate gate' result
    ends_both last gate gate' statuses.Done (blank, met, reads, is) =
        record { line = last; says = refl; ended = (blank, still_met gate' met, reads, is) }
    ends_both last gate gate' statuses.Record (words, refused, reads, front) = line_behind last gate gate' words refused reads front
    ends_both last gate gate' statuses.ReadFault (pending, reads, line) =
        record { line = last; says = refl; ended = (pending, reads, line) }
    ends_both last gate gate' statuses.Words ended = absurd ended
    ends_both last gate gate' statuses.Files ended = absurd ended
    ends_both last gate gate' statuses.WriteFault ended = absurd ended
    ends_both last gate gate' statuses.NoMemory ended = absurd ended
    ends_both last gate gate' statuses.Violated ended = absurd ended

pub kept_behind_saved : TwoRunJoins → KeptBehindSaved
kept_behind_saved laws entries rules start signature source file files told gate gate' taken given said first next next' result taken' given' said' second few =
    let a = first.answered in
    let b = second.answered in
    let none = first.ended.0 in
    let within = first.so_far.within in
    let t = second.is_trace in
    let fall = falls_behind start.clock (records_of a.read) (records_of b.read) (laws.records start.clock (records_of a.read) (records_of b.read) a.rising b.rising) in
    let ends = ends_both laws entries rules start taken given taken' given' a none b few second.last next next' result second.ended in
    let lines = lines_of_both laws entries rules start taken given taken' given' a none b in
    let joined = trace_join start.trace a.out b.out in (
      ends.line,
      ends.says,
      record {
        answered = answered_both laws entries rules start taken given taken' given' a none b within t;
        last = ends.line;
        ended = ends.ended;
        is_trace = subst IsTrace joined t;
        satisfied = subst (λ (steps : List Step). Satisfies steps (all_formulas rules)) joined second.satisfied;
        reported = ap (λ (text : List ℕ). text ++ (action_lines entries rules b.out ++ ends.line)) first.reported
            ∙ sym (append_assoc (action_lines entries rules a.out) (action_lines entries rules b.out) ends.line)
            ∙ ap (λ (text : List ℕ). text ++ ends.line) lines;
        alone = λ marked satisfied. untouched_all laws entries rules start taken given taken' given' a none b
            (alone_both_to_end laws.rises (all_formulas rules) start.trace (records_of a.read) (records_of b.read) a.out b.out
            (clock_after start.clock (records_of a.read)) fall (first.so_far.alone marked) laws.satisfying
            (all_is_trace laws entries rules start taken given taken' given' a none b within t) (second.alone marked)
            (subst (λ (records : List Record). Satisfies (start.trace ++ recorded records) (all_formulas rules)) (records_join a.read b.read) satisfied));
      },
    )

pub saved_behind_saved : TwoRunJoins → SavedBehindSaved
saved_behind_saved laws entries rules start signature source file files told gate gate' taken given said first file' files' told' next next' taken' given' said' second few =
    let a = first.answered in
    let b = second.answered in
    let none = first.ended.0 in
    let within = first.so_far.within in
    let clock : ℕ = clock_after start.clock (records_of a.read) in
    let good = second.so_far.good in
    let t = laws.is_trace (all_formulas rules) ((start.trace ++ trace_of (out_steps a.out)) ++ trace_of (out_steps b.out)) (clock_after clock (records_of b.read)) good in
    let fall = falls_behind start.clock (records_of a.read) (records_of b.read) (laws.records start.clock (records_of a.read) (records_of b.read) a.rising b.rising) in
    let lines = lines_of_both laws entries rules start taken given taken' given' a none b in
    let joined = trace_join start.trace a.out b.out in
    let clocks : clock_after clock (records_of b.read) ≡ clock_after start.clock (records_of (a.read ++ b.read)) =
    clock_is laws entries rules start taken given taken' given' a none b in
    let same : start_after (start_after start a) b ≡ start_after start (answered_both laws entries rules start taken given taken' given' a none b within t) =
    (λ i. record { trace = joined i; clock = clocks i }) in
    record {
      answered = answered_both laws entries rules start taken given taken' given' a none b within t;
      ended = (second.ended.0, still_met laws entries rules start taken given taken' given' a none b few next' second.ended.1, second.ended.2, refl);
      so_far = record {
        within = subst (λ (end : ℕ). IsWithin start.clock end (out_steps (a.out ++ b.out))) clocks
            (subst (IsWithin start.clock (clock_after clock (records_of b.read))) (sym (out_join a.out b.out))
            (laws.within start.clock clock (clock_after clock (records_of b.read)) (out_steps a.out) (out_steps b.out)
            (laws.rises start.clock (records_of a.read) a.rising) (laws.rises clock (records_of b.read) fall) within second.so_far.within));
        good = subst (Good (all_formulas rules) (start.trace ++ trace_of (out_steps (a.out ++ b.out)))) clocks
            (subst (λ (steps : List Step). Good (all_formulas rules) steps (clock_after clock (records_of b.read))) joined good);
        alone = λ marked all. untouched_all laws entries rules start taken given taken' given' a none b
            (alone_both laws.rises (all_formulas rules) start.trace (records_of a.read) (records_of b.read) a.out b.out clock fall
            (first.so_far.alone marked) (second.so_far.alone marked)
            (subst (λ (records : List Record). Good (all_formulas rules) (start.trace ++ recorded records) (clock_after clock (records_of b.read))) (records_join a.read b.read)
            (subst (Good (all_formulas rules) (start.trace ++ recorded (records_of (a.read ++ b.read)))) (sym clocks) all)));
      };
      reported = (λ i. first.reported i ++ second.reported i) ∙ lines;
      state = second.state;
      is_state = subst (λ (at : Start). IsStateText entries rules signature source at second.state) same second.is_state;
      ready = λ short. subst (λ (at : Start). IsReadyState entries rules signature source at second.state) same
          (second.ready (subst (λ (steps : List Step). length steps < 2 ^ 63) (sym joined) short));
      stands = second.stands;
    }

pub saved_is_asked : SavedIsAsked
saved_is_asked words told states start entries rules asked file told' gate gate' taken given said saved short signature_file policy_file resumed to files first second holds = record {
  signature_file = signature_file;
  policy_file = policy_file;
  form = refl;
  files = files;
  tell = refl;
  signature = asked.signature;
  first = first;
  is_signature = asked.is_signature;
  policy = asked.policy;
  second = second;
  is_policy = asked.is_policy;
  accepted = asked.accepted;
  starts = (saved.state, holds, saved.ready short);
}
