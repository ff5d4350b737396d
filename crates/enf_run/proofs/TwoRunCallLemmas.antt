-- What three calls of `run` gave and said, the first two of which take one log one after the other, and the third all
-- of it.
use Rattle.enf_run.proofs.Vocabulary.{◌≡◌, ◌≢◌, ℕ, ◌-◌, ◌<◌, Bool, true, false, List, [], ◌++◌, length, Option, Some, Ok, take, refl, sym, ap, subst, ◌∙◌, append_assoc, arith, inl, inr, length-append}
use Rattle.enf_run.proofs.Vocabulary.{append-nil, take-append-drop, flat_map-append, Contents, Exchange, IsAtEnd, input_left, OfCalls, exchange_since, taken_bytes, Stream, Gave, Grew, GrewWhereTold}
use Rattle.enf_run.proofs.Vocabulary.{left-since, ActedStep, out_steps, AcceptedIsNotRefused, Rule, RefusesFront as RefusesText, LogItem, LogRefusal, OneSignatureAnswer, NameEntry, trace_of, Start}
use Rattle.enf_run.proofs.Vocabulary.{start_behind, clock_after, UpToDate, LogSetting, enforced_from, action_lines, step_action_lines, most_log_bytes, records_of, IsReadyState, States, Call}
use Rattle.enf_run.proofs.Vocabulary.{IsExchange, AreBytesHeld, IsOwedAtEnd, PausesLog, RunsLogFor, taken_log_of, AsksToEnforce, MayStart, PausesRun, WritesRun, comes_to, ReadsPolicy, SpellsSignature}
use Rattle.enf_run.proofs.Vocabulary.{LogEndsAs, IsRestRefusedAs, TakenLog, Seen, seen_of, HoldsStart, IsStartOf, CallsAreOne, GivesBoth, GoesOnFromSaved, PausesAreOne, SameSources, TakeTurns}
use Rattle.enf_run.proofs.Vocabulary.{TakesBoth, TakesLogs, TellsCalls, TellsCall, calls_of, given_of, input_of, said_of, taken_of_call, IsEndOfLog, IsLogOver, TwoRunJoins, setting_after, Verdict}
use Rattle.enf_run.proofs.Vocabulary.{RecordRefusal}
use Rattle.std.specs.Prelude.{IfSome}
use Rattle.enf_run.proofs.RequestLemmas.{OneTextAnswer, same_policy, same_signature}
use Rattle.enf_run.proofs.TwoRunEndLemmas.{OneLog}
use Rattle.enf_run.proofs.HeadlineLemmas.{given_by}
use Rattle.enf_run.proofs.OneReadingLemmas.{OneRecordAnswer}
use Rattle.enf_run.proofs.TwoRunLemmas.{records_join, runs_are_one, trace_join}
use Rattle.log_stream.specs.declared.items.LogRefusal.TheVariants as log
use Rattle.enf_run.specs.declared.intake.Verdict.TheVariants as verdicts
use Rattle.enf_run.specs.declared.refusals.RecordRefusal.TheVariants as records

-- ---- what devices tell

-- what holds of the calls holds of what is told of them
told_calls : (P : Exchange → Type 0) (before after : Option Exchange) (told : TellsCalls before after) → OfCalls P before after → P (calls_of told)
told_calls P before after told h =
    subst (λ (b : Option Exchange). OfCalls P (Some told.first) b) told.now (subst (λ (a : Option Exchange). OfCalls P a after) told.was h)

told_grew : (before after : Option Exchange) (told : TellsCalls before after) → GrewWhereTold before after → Grew told.first told.last
told_grew before after told h =
    subst (λ (b : Option Exchange). GrewWhereTold (Some told.first) b) told.now (subst (λ (a : Option Exchange). GrewWhereTold a after) told.was h)

told_gave : (text : List ℕ) (before after : Option Exchange) (told : TellsCalls before after) → Gave text before after → (calls_of told).given ≡ text
told_gave text before after told gave = told_calls (λ x. x.given ≡ text) before after told (given_by text before after gave)

-- what was taken, and what is left, is the input
input_split : (x y : Exchange) → Grew x y → taken_bytes (exchange_since x y) ++ input_left y ≡ input_left x
input_split x y grew =
    ap (λ (l : List ℕ). take (y.taken - x.taken) (input_left x) ++ l) (sym (left-since x y grew)) ∙ take-append-drop (y.taken - x.taken) (input_left x)

told_end : (before after : Option Exchange) (told : TellsCalls before after) → IsAtEnd after → input_left told.last ≡ []
told_end before after told ended = subst IsAtEnd told.now ended

-- ---- how a log ends

-- the reader does not refuse what is truncated
not_truncated : (t : TakenLog) (why : LogRefusal) → RefusesText t.reading.entries t.reading.mode t.rest why → why ≢ log.Truncated
not_truncated t why refused is = subst (RefusesText t.reading.entries t.reading.mode t.rest) is refused

-- no more records are accepted, but where a read failed, or where as many bytes were taken as may be
module _ (t : TakenLog) (before after : Stream) (first : Option Exchange) (told : TellsCalls first after.told) (few : t.count < most_log_bytes) where
  refused_over : (why : RecordRefusal) → IsRestRefusedAs t after why → IsLogOver (verdicts.Refused why) (input_left told.last)
  refused_over (records.Log why) (inl refused) = inr (not_truncated t why refused)
  refused_over (records.Log why) (inr (is, truncated, met)) = inl (told_end first after.told told met.1)
  refused_over (records.Falling given at) refused = inr tt
  refused_over records.InputLimit refused = absurd (omega (arith, few, refused.1))

  is_over : (verdict : Verdict) → verdict ≢ verdicts.Fault → LogEndsAs t before after verdict → IsLogOver verdict (input_left told.last)
  is_over verdicts.Accepted unfailed ends = inl (told_end first after.told told ends.1.1)
  is_over verdicts.Fault unfailed ends = absurd (unfailed refl)
  is_over (verdicts.Refused why) unfailed ends = refused_over why ends.0

-- where fewer bytes were taken than may be, a log ends by itself, but where a read failed
is_of_log : (t : TakenLog) (before after : Stream) → t.count < most_log_bytes → (verdict : Verdict) → verdict ≢ verdicts.Fault → LogEndsAs t before after verdict → IsEndOfLog verdict
is_of_log t before after few verdicts.Accepted unfailed ends = tt
is_of_log t before after few verdicts.Fault unfailed ends = absurd (unfailed refl)
is_of_log t before after few (verdicts.Refused (records.Log why)) unfailed ends = tt
is_of_log t before after few (verdicts.Refused (records.Falling given at)) unfailed ends = tt
is_of_log t before after few (verdicts.Refused records.InputLimit) unfailed ends = absurd (omega (arith, few, ends.0.1))

-- ---- three runs

-- a log was run in a setting, for these records, and this was emitted for them
record Ran (input_left : Bool) (verdict : Verdict) (before after : Seen) (read : List LogItem) (out : List ActedStep) (s : LogSetting) : Type 0 where
  pub ran : RunsLogFor (IsOwedAtEnd input_left s) s verdict before after
  pub read_is : read ≡ ran.answers.read
  pub out_is : out ≡ ran.answers.out

module _ (law : OneRecordAnswer) (one_log : OneLog) (laws : TwoRunJoins) where
  module _ {Gate : Type 0} (first second whole : Call Gate) (said said' said'' : Stream)
      (one : TellsCall first said) (other : TellsCall second said') (both : TellsCall whole said'')
      (left_so : Bool) (entries : List NameEntry) (rules : List Rule) (start : Start) (verdict verdict' : Verdict)
      (paused : PausesLog (enforced_from entries rules start) (seen_of first.before.gate first.before.report) (seen_of first.after.gate said))
      (read read' : List LogItem) (out out' : List ActedStep)
      (next : Ran left_so verdict (seen_of second.before.gate second.before.report) (seen_of second.after.gate said') read out
      (setting_after (enforced_from entries rules start) paused.answers))
      (all : Ran left_so verdict' (seen_of whole.before.gate whole.before.report) (seen_of whole.after.gate said'') read' out'
      (enforced_from entries rules start)) where
    abbrev s : LogSetting
    s = enforced_from entries rules start

    took_first : taken_of_call one ≡ paused.taken
    took_first = (told_calls (IsExchange (UpToDate s) paused.taken paused.given) first.before.gate.told first.after.gate.told one.gate paused.exchanged.calls).took

    took_next : taken_of_call other ≡ next.ran.taken
    took_next = (told_calls (IsExchange (UpToDate (setting_after s paused.answers)) next.ran.taken next.ran.given)
        second.before.gate.told second.after.gate.told other.gate next.ran.exchanged.calls).took

    took_all : taken_of_call both ≡ all.ran.taken
    took_all = (told_calls (IsExchange (UpToDate s) all.ran.taken all.ran.given) whole.before.gate.told whole.after.gate.told both.gate all.ran.exchanged.calls).took

    -- what is known of the third, where it took what the others did, or all that they may take
    record Same : Type 0 where
      pub given : given_of both ≡ given_of one ++ given_of other
      pub says : said_of both ≡ said_of one ++ said_of other
      pub read_both : read' ≡ paused.answers.read ++ read
      pub out_both : out' ≡ paused.answers.out ++ out
      pub ends : IsEndOfLog verdict → IsEndOfLog verdict' → verdict' ≡ verdict

    same_by : (more more' : List ℕ) → IsLogOver verdict more → IsLogOver verdict' more' → (paused.taken ++ next.ran.taken) ++ more ≡ all.ran.taken ++ more' → Same
    same_by more more' over over' bytes =
        let is = runs_are_one law one_log laws left_so s verdict verdict'
        (seen_of first.before.gate first.before.report) (seen_of first.after.gate said)
        (seen_of second.before.gate second.before.report) (seen_of second.after.gate said')
        (seen_of whole.before.gate whole.before.report) (seen_of whole.after.gate said'')
        refl paused next.ran all.ran more more' over over' bytes in
        let out_is : out' ≡ paused.answers.out ++ out = all.out_is ∙ is.0.out ∙ ap (λ (l : List ActedStep). paused.answers.out ++ l) (sym next.out_is) in
        let gave = (told_calls (IsExchange (UpToDate s) paused.taken paused.given) first.before.gate.told first.after.gate.told one.gate paused.exchanged.calls).gave in
        let gave_next = (told_calls (IsExchange (UpToDate (setting_after s paused.answers)) next.ran.taken
        next.ran.given) second.before.gate.told second.after.gate.told other.gate next.ran.exchanged.calls).gave
        in
        let gave_all = (told_calls (IsExchange (UpToDate s) all.ran.taken all.ran.given) whole.before.gate.told whole.after.gate.told both.gate all.ran.exchanged.calls).gave in
        let lines : List ActedStep → List ℕ = action_lines entries rules in
        let says = told_gave (lines paused.answers.out) first.before.report.told said.told one.report paused.actions.gave in
        let says_next = told_gave (lines next.ran.answers.out) second.before.report.told said'.told other.report next.ran.actions.gave in
        let says_all = told_gave (lines all.ran.answers.out) whole.before.report.told said''.told both.report all.ran.actions.gave in
        record {
          given = gave_all ∙ is.1 ∙ sym (λ i. gave i ++ gave_next i);
          says = says_all ∙ ap lines is.0.out ∙ flat_map-append (step_action_lines entries rules) paused.answers.out next.ran.answers.out
              ∙ sym (λ i. says i ++ says_next i);
          read_both = all.read_is ∙ is.0.read ∙ ap (λ (l : List LogItem). paused.answers.read ++ l) (sym next.read_is);
          out_both = out_is;
          ends = is.2;
        }

    same_taken : taken_of_call both ≡ taken_of_call one ++ taken_of_call other → Same
    same_taken is =
        same_by [] [] (inl refl) (inl refl)
        (ap (λ (l : List ℕ). l ++ []) ((λ i. sym took_first i ++ sym took_next i) ∙ sym is ∙ took_all))

    module _ (input : input_of both ≡ input_of one ++ input_of other) (few : length (input_of both) < most_log_bytes)
        (unfailed : verdict ≢ verdicts.Fault) (unfailed' : verdict' ≢ verdicts.Fault) where
      split_first : paused.taken ≡ input_of one
      split_first =
          let split = input_split one.gate.first one.gate.last (told_grew first.before.gate.told first.after.gate.told one.gate paused.exchanged.grew) in
          let none = told_end first.before.gate.told first.after.gate.told one.gate paused.ends.1.1 in
          sym took_first ∙ sym (append-nil (taken_of_call one)) ∙ ap (λ (l : List ℕ). taken_of_call one ++ l) (sym none) ∙ split

      split_next : next.ran.taken ++ input_left other.gate.last ≡ input_of other
      split_next =
          ap (λ (l : List ℕ). l ++ input_left other.gate.last) (sym took_next)
          ∙ input_split other.gate.first other.gate.last (told_grew second.before.gate.told second.after.gate.told other.gate next.ran.exchanged.grew)

      split_all : all.ran.taken ++ input_left both.gate.last ≡ input_of both
      split_all =
          ap (λ (l : List ℕ). l ++ input_left both.gate.last) (sym took_all)
          ∙ input_split both.gate.first both.gate.last (told_grew whole.before.gate.told whole.after.gate.told both.gate all.ran.exchanged.grew)

      few_next : length next.ran.taken < most_log_bytes
      few_next =
          omega (
            arith,
            few,
            ap length input,
            length-append (input_of one) (input_of other),
            ap length split_next,
            length-append next.ran.taken (input_left other.gate.last),
          )

      few_all : length all.ran.taken < most_log_bytes
      few_all = omega (arith, few, ap length split_all, length-append all.ran.taken (input_left both.gate.last))

      same_input : Same
      same_input =
          same_by (input_left other.gate.last) (input_left both.gate.last)
          (is_over (taken_log_of (setting_after s paused.answers) next.ran.answers.read next.ran.taken next.ran.rest) second.before.gate second.after.gate
          second.before.gate.told other.gate few_next verdict unfailed next.ran.ends)
          (is_over (taken_log_of s all.ran.answers.read all.ran.taken all.ran.rest) whole.before.gate whole.after.gate
          whole.before.gate.told both.gate few_all verdict' unfailed' all.ran.ends)
          (append_assoc paused.taken next.ran.taken (input_left other.gate.last) ∙ (λ i. split_first i ++ split_next i) ∙ sym input ∙ sym split_all)

    same : TakesBoth one other both verdict verdict' → Same
    same (inl (input, few, unfailed, unfailed')) = same_input input few unfailed unfailed'
    same (inr taken) = same_taken taken

    -- and where it had both logs, it ended as the second
    ends_alike : TakesLogs one other both verdict verdict' → verdict' ≡ verdict
    ends_alike (input, few, unfailed, unfailed') =
        (same_input input few unfailed unfailed').ends
        (is_of_log (taken_log_of (setting_after s paused.answers) next.ran.answers.read next.ran.taken next.ran.rest) second.before.gate second.after.gate
        (few_next input few unfailed unfailed') verdict unfailed next.ran.ends)
        (is_of_log (taken_log_of s all.ran.answers.read all.ran.taken all.ran.rest) whole.before.gate whole.after.gate
        (few_all input few unfailed unfailed') verdict' unfailed' all.ran.ends)

-- where a run has come to for all records is where one comes to for the others, after where one came to for the first
comes_same : TwoRunJoins → (start : Start) (read more all : List LogItem) (out others steps : List ActedStep) → all ≡ read ++ more → steps ≡ out ++ others
    → start_behind start (records_of all) (out_steps steps) ≡ start_behind (start_behind start (records_of read) (out_steps out)) (records_of more) (out_steps others)
comes_same laws start read more all out others steps reads outs =
    let trace = ap (λ (l : List ActedStep). start.trace ++ trace_of (out_steps l)) outs ∙ sym (trace_join start.trace out others) in
    let clock = ap (λ (l : List LogItem). clock_after start.clock (records_of l)) reads ∙ ap (clock_after start.clock) (records_join read more)
    ∙ laws.clock start.clock (records_of read) (records_of more) in
    (λ i. record { trace = trace i; clock = clock i })

-- ---- calls

module _ (one_answer : OneSignatureAnswer) (one_text : OneTextAnswer) (accepted : AcceptedIsNotRefused) where
  -- two calls with the same bytes of their sources have the same names and rules
  module _ {Gate : Type 0} {call other : Call Gate} (states states' : States) (asks : AsksToEnforce call states) (also : AsksToEnforce other states')
      (same : SameSources asks also) where
    pub same_entries : also.entries ≡ asks.entries
    same_entries =
        same_signature one_answer one_text accepted asks.asks.signature_bytes also.entries asks.entries
        (subst (λ (bytes : List ℕ). SpellsSignature bytes also.entries) same.signature also.asks.is_signature)
        asks.asks.is_signature

    same_rules : also.rules ≡ asks.rules
    same_rules =
        let of_bytes = subst (λ (bytes : List ℕ). ReadsPolicy also.entries bytes (Ok also.rules)) same.policy also.asks.is_policy.reads in
        same_policy one_answer one_text accepted asks.entries asks.asks.policy_bytes also.rules asks.rules
        (subst (λ (names : List NameEntry). ReadsPolicy names asks.asks.policy_bytes (Ok also.rules)) same_entries of_bytes)
        asks.asks.is_policy.reads

    -- what holds in a setting of the one holds in that of the other
    in_setting : (P : LogSetting → Type 0) (start : Start) → P (enforced_from also.entries also.rules start) → P (enforced_from asks.entries asks.rules start)
    in_setting P start h =
        subst (λ (rules : List Rule). P (enforced_from asks.entries rules start)) same_rules
        (subst (λ (names : List NameEntry). P (enforced_from names also.rules start)) same_entries h)

  -- the second call may start where the first has come to
  module _ {Gate : Type 0} {first second : Call Gate} {report : Stream} (saved : WritesRun first report (Ok tt)) (states : States)
      (asks : AsksToEnforce second states) (goes_on : GoesOnFromSaved saved states asks) where
    same_state : asks.state ≡ saved.state
    same_state =
        let told = second.before.files.contents in
        let holds = subst (λ (o : Option (List ℕ)). HoldsStart o told asks.asks.signature_bytes asks.asks.policy_bytes asks.bounds asks.state asks.clock) goes_on.names asks.holds_start in
        let under = subst (λ (o : Option (List ℕ → Contents)). IfSome o (λ files. AreBytesHeld asks.state (files goes_on.resumed))) goes_on.tell holds.1.under in
        subst (AreBytesHeld asks.state) goes_on.holds under

    pub may_start : (at : Start) → IsReadyState saved.paused.asks.entries saved.paused.asks.rules saved.paused.asks.asks.signature_bytes saved.paused.asks.asks.policy_bytes at saved.state
        → MayStart states asks at
    may_start at ready =
        let a = saved.paused.asks in
        let sources = goes_on.sources in
        let of_state = subst (IsReadyState a.entries a.rules a.asks.signature_bytes a.asks.policy_bytes at) (sym same_state) ready in
        let of_policy = subst (λ (bytes : List ℕ). IsReadyState a.entries a.rules a.asks.signature_bytes bytes at asks.state) (sym sources.policy) of_state in
        let of_signature = subst (λ (bytes : List ℕ). IsReadyState a.entries a.rules bytes asks.asks.policy_bytes at asks.state) (sym sources.signature) of_policy in
        let of_rules = subst (λ (rules : List Rule). IsReadyState a.entries rules asks.asks.signature_bytes asks.asks.policy_bytes at asks.state)
        (sym (same_rules saved.paused.states states a asks sources)) of_signature in
        let of_names = subst (λ (names : List NameEntry). IsReadyState names asks.rules asks.asks.signature_bytes asks.asks.policy_bytes at asks.state)
        (sym (same_entries saved.paused.states states a asks sources)) of_rules in
        subst (λ (o : Option (List ℕ)). IsStartOf o asks.entries asks.rules asks.asks.signature_bytes asks.asks.policy_bytes asks.state at) (sym goes_on.names) of_names

  module _ (law : OneRecordAnswer) (one_log : OneLog) (laws : TwoRunJoins) (Gate : Type 0) where
    pub calls_are_one : CallsAreOne Gate
    calls_are_one first second whole said said' said'' states states' judged judged' saved next all turns one other both takes =
        let a = saved.paused.asks in
        let paused = saved.paused.ran turns.start turns.starts in
        let at : Start = comes_to saved.paused turns.start turns.starts in
        let starts = may_start saved states next.asks turns.goes_on at (saved.ready turns.start turns.starts turns.short) in
        let ran = next.ran at starts in
        let ran_all = all.ran turns.start turns.starts' in
        let mine : Ran false judged.verdict (seen_of second.before.gate second.before.report) (seen_of second.after.gate said') ran.answers.read ran.answers.out
        (enforced_from next.asks.entries next.asks.rules at) =
        record { ran = ran; read_is = refl; out_is = refl } in
        let its : Ran false judged'.verdict (seen_of whole.before.gate whole.before.report) (seen_of whole.after.gate said'') ran_all.answers.read ran_all.answers.out
        (enforced_from all.asks.entries all.asks.rules turns.start) =
        record { ran = ran_all; read_is = refl; out_is = refl } in
        let of_first = in_setting saved.paused.states states a next.asks turns.goes_on.sources
        (Ran false judged.verdict (seen_of second.before.gate second.before.report) (seen_of second.after.gate said') ran.answers.read ran.answers.out) at mine in
        let of_first_too = in_setting saved.paused.states states' a all.asks turns.sources
        (Ran false judged'.verdict (seen_of whole.before.gate whole.before.report) (seen_of whole.after.gate said'') ran_all.answers.read ran_all.answers.out) turns.start its in
        let is = same law one_log laws first second whole said said' said'' one other both false a.entries a.rules turns.start judged.verdict judged'.verdict paused
        ran.answers.read ran_all.answers.read ran.answers.out ran_all.answers.out of_first of_first_too takes in (
          record { given = is.given; says = is.says },
          omega (arith, all.counts turns.start turns.starts', next.counts at starts, ap length is.read_both, length-append paused.answers.read ran.answers.read),
          ends_alike law one_log laws first second whole said said' said'' one other both false a.entries a.rules turns.start judged.verdict judged'.verdict paused
              ran.answers.read ran_all.answers.read ran.answers.out ran_all.answers.out of_first of_first_too,
        )

    -- where both save their state, wherever the second starts that may start where the first has come to
    paused_so : (first second whole : Call Gate) (said said' said'' : Stream) (file file' : List ℕ)
        (saved : WritesRun first said (Ok tt)) (next : PausesRun second said' file) (all : PausesRun whole said'' file')
        (turns : TakeTurns saved next.states next.asks all.states all.asks)
        (one : TellsCall first said) (other : TellsCall second said') (both : TellsCall whole said'')
        → TakesBoth one other both verdicts.Accepted verdicts.Accepted
        → (starts : MayStart next.states next.asks (comes_to saved.paused turns.start turns.starts))
        → GivesBoth one other both
        × (comes_to all turns.start turns.starts' ≡ comes_to next (comes_to saved.paused turns.start turns.starts) starts)
    paused_so first second whole said said' said'' file file' saved next all turns one other both takes starts =
        let a = saved.paused.asks in
        let paused = saved.paused.ran turns.start turns.starts in
        let at : Start = comes_to saved.paused turns.start turns.starts in
        let ran = next.ran at starts in
        let ran_all = all.ran turns.start turns.starts' in
        let mine : Ran true verdicts.Accepted (seen_of second.before.gate second.before.report) (seen_of second.after.gate said') ran.answers.read ran.answers.out
        (enforced_from next.asks.entries next.asks.rules at) =
        record { ran = ran; read_is = refl; out_is = refl } in
        let its : Ran true verdicts.Accepted (seen_of whole.before.gate whole.before.report) (seen_of whole.after.gate said'') ran_all.answers.read ran_all.answers.out
        (enforced_from all.asks.entries all.asks.rules turns.start) =
        record { ran = ran_all; read_is = refl; out_is = refl } in
        let is = same law one_log laws first second whole said said' said'' one other both true a.entries a.rules turns.start verdicts.Accepted verdicts.Accepted paused
        ran.answers.read ran_all.answers.read ran.answers.out ran_all.answers.out
        (in_setting saved.paused.states next.states a next.asks turns.goes_on.sources
        (Ran true verdicts.Accepted (seen_of second.before.gate second.before.report) (seen_of second.after.gate said') ran.answers.read ran.answers.out) at mine)
        (in_setting saved.paused.states all.states a all.asks turns.sources
        (Ran true verdicts.Accepted (seen_of whole.before.gate whole.before.report) (seen_of whole.after.gate said'') ran_all.answers.read ran_all.answers.out) turns.start its)
        takes in (
          record { given = is.given; says = is.says },
          comes_same laws turns.start paused.answers.read ran.answers.read ran_all.answers.read paused.answers.out ran.answers.out ran_all.answers.out
              is.read_both is.out_both,
        )

    pub pauses_are_one : PausesAreOne Gate
    pauses_are_one first second whole said said' said'' file file' saved next all turns one other both takes =
        let at : Start = comes_to saved.paused turns.start turns.starts in
        let ready = may_start saved next.states next.asks turns.goes_on at (saved.ready turns.start turns.starts turns.short) in (
          (paused_so first second whole said said' said'' file file' saved next all turns one other both takes ready).0,
          (ready, (paused_so first second whole said said' said'' file file' saved next all turns one other both takes ready).1),
        )
