-- How far the run of a log has come, and one turn more.
use Rattle.enf_run.proofs.Vocabulary.{◌≡◌, ℕ, ◌+◌, ◌-◌, ◌<◌, ◌≤◌, List, [], ◌∷◌, ◌++◌, length, refl, sym, ap, subst, ◌∙◌, inl, inr, Option, arith, append_assoc, ◌⊎◌, IsTrue, append-nil, map-append}
use Rattle.enf_run.proofs.Vocabulary.{length_push, none_more, one_more, FlushesGate, Exchange, Stream, Gave, Formula, Rule, Step, ActedStep, out_steps, steps_of, Permits, Course, IsJustOne}
use Rattle.enf_run.proofs.Vocabulary.{FollowsPolicy, FollowsToEnd, AreDistinct, VarId, Enforcing, enforcer_plans, acted_steps, Stands, StepOut, SpellsRecords-append, SpellsRecords-blanks}
use Rattle.enf_run.proofs.Vocabulary.{SpellsRecords-none, SpellsRecords-push, BeginsWithRecord-shorter, text_of, BeginsWithRecord, IsPending, SpellsRecords, behind_blanks, LogItem, Input}
use Rattle.enf_run.proofs.Vocabulary.{entry_names as names_of, NameEntry, Good, trace_of, Record, clock_after, recorded, GoodPrefix, UpToDate, IsOwedInAll, IsOwedSoFar, LogSetting, is_causable}
use Rattle.enf_run.proofs.Vocabulary.{is_suppressible, ArePlanned, StoredTyped, WorkTogether, typed_of, SaysActions, Seen, CutsActions, CutsHanding, CutsLine, CutsSteps, all_formulas, most_log_bytes}
use Rattle.enf_run.proofs.Vocabulary.{record_of, records_of, IsTransparentPolicy, Exchanged, IsReadBegun, LosesBytes, TakesBytes, CutsRun, FailsAtGate, FailsAtReport, IsCutLine, IsOwedWhere}
use Rattle.enf_run.proofs.Vocabulary.{StopsShort, RunsShort, taken_log_of, RanSo, IsOwedAtEnd, faults_behind, HoldsTurn, seen_of, HasPlans, enforcer_setting, AcceptsRecords, Plan}
use Rattle.enf_run.proofs.Vocabulary.{is_transparent, CutsDrain, CutsDrainLines, CutsTaken, GivesDrain, GivesRest, LosesTurn, TakesItem, WritesNothing, LogMoment, log_moment, EnforcerDrains}
use Rattle.enf_run.proofs.Vocabulary.{EnforcerTakes, EnforcerLaws, Cut, Enforcement, Judged, Verdict}
use Rattle.std.specs.Prelude.{Bool, true, false, Err}
use Rattle.enf_run.proofs.CutLineLemmas.{cut_none}
use Rattle.enf_run.proofs.LineLemmas.{all_said, fails_within, gains_none, lines_behind, said_but_last, said_in_part, says_more}
use Rattle.enf_run.proofs.ExchangeLemmas.{begun_gave, exchanged_gave}
use Rattle.enf_run.proofs.IntakeLemmas.{IsEnded, IsFar, ends_gave, exchanged_more, far_gave, far_none, far_took}
use Rattle.enf_run.proofs.HandingLemmas.{ends_handed}
use Rattle.enf_run.proofs.LogLemmas.{read_distinct}
use Rattle.enf_run.specs.declared.endings.Cut.TheVariants as cuts

-- where just one list of steps is emitted, none is emitted beside it
pub none_else : (P : List ActedStep → Type 0) → IsJustOne P → (out : List ActedStep) → P out → (others : List ActedStep) → P others → others ≡ out
none_else P one out is others also = one.2 others also ∙ sym (one.2 out is)

-- what the plans of an enforcer change may be changed, and they belong together with their guards
abbrev pub MayRun : List NameEntry → Enforcing → Type 0
MayRun entries enforcer = Permits (is_causable entries) (is_suppressible entries) (enforcer_plans enforcer) × WorkTogether (typed_of enforcer.policy)

module _ (entries : List NameEntry) (rules : List Rule) (first : Enforcing) (trace : List Step) where
  abbrev pub setting : LogSetting
  setting = enforcer_setting entries rules first trace

  abbrev policy : List Formula
  policy = all_formulas rules

  -- the records at the front of the bytes, up to a rest, were taken, and steps were emitted for them
  pub record HasRead (taken rest : List ℕ) (now : Enforcing) : Type 0 where
    pub read : List LogItem
    pub spelled : SpellsRecords entries Input taken read rest
    pub out : List ActedStep
    pub course : Course first trace (records_of read) out now

  -- so many were taken, what was emitted for them was given, and it was so at each read
  pub record Progress (before : Seen) (taken rest : List ℕ) (accepted : ℕ) (now : Enforcing) (after : Seen) : Type 0 where
    pub so_far : HasRead taken rest now
    pub count : accepted ≡ length so_far.read
    pub far : IsFar (UpToDate setting) before.gate taken (text_of (names_of entries) (out_steps so_far.out)) after.gate
    pub writes : after.gate.write_faults ≡ before.gate.write_faults
    pub actions : SaysActions entries rules so_far.out before.report after.report

  -- the log ended so, after so many accepted records
  pub record Ended (before : Seen) (taken rest : List ℕ) (accepted : ℕ) (now : Enforcing) (verdict : Verdict) (after : Seen) : Type 0 where
    pub so_far : HasRead taken rest now
    pub count : accepted ≡ length so_far.read
    pub ended : IsEnded (UpToDate setting) (taken_log_of setting so_far.read taken rest) verdict before.gate taken (text_of (names_of entries) (out_steps so_far.out)) after.gate
    pub writes : after.gate.write_faults ≡ before.gate.write_faults
    pub actions : SaysActions entries rules so_far.out before.report after.report

  module _ (laws : EnforcerLaws) (may : MayRun entries first) (built : HasPlans entries rules first) where
    abbrev guards : List (Formula × List VarId)
    guards = (typed_of first.policy).guards

    -- before any call
    pub progress_none : Stands first trace → (before : Seen) → Progress before [] [] 0 first before
    progress_none stands before =
        record {
          so_far = record { read = []; spelled = SpellsRecords-none entries Input []; out = []; course = laws.begins first trace stands };
          count = refl;
          far = far_none (UpToDate setting) before.gate;
          writes = refl;
          actions = gains_none before.report;
        }

    module _ (taken rest : List ℕ) (now : Enforcing) (h : HasRead taken rest now) where
      distinct : AreDistinct (records_of h.read)
      distinct = read_distinct entries taken h.read rest h.spelled

      -- where the policy has the mark the plans have it
      are_marked : IsTransparentPolicy entries policy → IsTrue (is_transparent (enforcer_plans first))
      are_marked mark = subst (λ (plans : List Plan). IsTrue (is_transparent plans))
          (laws.one_plans entries policy mark.plans (enforcer_plans first) mark.guards guards mark.planned built).0
          mark.marked

      -- what was emitted is what is owed to the records so far
      pub owed_so_far : IsOwedSoFar setting (records_of h.read) h.out
      owed_so_far =
          let k = laws.keeps_up (is_causable entries) (is_suppressible entries) first trace (records_of h.read) h.out now may.0 may.1 h.course in
          let good = k.good in
          let decided = laws.follows entries policy guards first trace (records_of h.read) h.out now built h.course in
          record {
            lawful = k.lawful;
            so_far = record {
              within = k.within;
              good = (good.0, good.1, laws.planned entries policy (enforcer_plans first) guards good.0 built good.2);
              alone = λ mark well. laws.transparent entries policy guards first trace (records_of h.read) h.out now built may.1 (are_marked mark) distinct h.course
                  (subst (Good policy (trace ++ recorded (records_of h.read))) (sym h.course.clock) well);
            };
            justified = laws.justified entries policy guards first trace (records_of h.read) h.out now built may.1 distinct h.course;
            decided = decided;
            only = none_else (FollowsPolicy entries policy trace (records_of h.read))
                (laws.just_one entries policy (typed_of first.policy) trace (records_of h.read) built may.1 distinct)
                h.out decided;
          }

      -- and with a drain what is owed in all
      pub owed_in_all : (made : StepOut) (after : Enforcing) → EnforcerDrains now made after → IsOwedInAll setting (records_of h.read) (h.out ++ acted_steps made.steps)
      owed_in_all made after d =
          let e = laws.enforces (is_causable entries) (is_suppressible entries) first trace (records_of h.read) h.out now made after may.0 h.course d.stands d.satisfied d.changed in
          let decided = laws.follows_to_end entries policy guards first trace (records_of h.read) h.out now made built h.course d.decided in
          record {
            lawful = e.lawful;
            is_trace = e.is_trace;
            satisfied = laws.planned entries policy
                (enforcer_plans first) guards (trace ++ trace_of (out_steps (h.out ++ acted_steps made.steps))) built
                e.satisfied;
            justified = laws.justified_to_end entries policy guards first trace (records_of h.read) h.out now made built may.1 distinct h.course d.decided;
            decided = decided;
            only = none_else (FollowsToEnd entries policy trace (records_of h.read))
                (laws.just_one_to_end entries policy (typed_of first.policy) trace (records_of h.read) built may.1
                distinct) (h.out ++ acted_steps made.steps) decided;
            alone = λ mark satisfied. laws.transparent_to_end entries policy guards first trace (records_of h.read) h.out now made built may.1 (are_marked mark) distinct h.course d.decided satisfied;
          }

      pub accepts : AcceptsRecords entries Input first.clock taken h.read rest
      accepts = record { spelled = h.spelled; rising = h.course.in_time }

      pub up_to_date : IsPending rest → UpToDate setting taken (text_of (names_of entries) (out_steps h.out))
      up_to_date pending = record { rest = rest; answers = record { read = h.read; accepts = accepts; out = h.out; text = refl; owed = owed_so_far }; pending = pending }

      -- a piece more was taken
      abbrev read_more : (bytes : List ℕ) → HasRead (taken ++ bytes) (behind_blanks rest ++ bytes) now
      read_more bytes =
          record {
            read = h.read;
            spelled = SpellsRecords-append entries Input taken h.read (behind_blanks rest) bytes (SpellsRecords-blanks entries Input taken h.read rest h.spelled);
            out = h.out;
            course = h.course;
          }

      -- one record more was taken
      abbrev one_more_read : (more : List ℕ) (item : LogItem) (made : StepOut) (after : Enforcing)
          → BeginsWithRecord entries Input rest item more → EnforcerTakes now (record_of item) made after
          → HasRead taken more after
      one_more_read more item made after begins takes =
          record {
            read = h.read ++ item ∷ [];
            spelled = SpellsRecords-push entries Input taken h.read rest item more h.spelled begins;
            out = h.out ++ acted_steps made.steps;
            course = subst (λ (rs : List Record). Course first trace rs (h.out ++ acted_steps made.steps) after) (sym (map-append record_of h.read (item ∷ [])))
                (laws.goes_on first trace (records_of h.read) h.out now (record_of item) made after h.course takes.in_time takes.goes_on takes.stands takes.changed takes.decided);
          }

    -- the steps in front of others that can be continued well can be so themselves
    good_front : (out whole behind : List ActedStep) (clock : ℕ) → out ≡ whole ++ behind → Good policy (trace ++ steps_of out) clock → GoodPrefix policy (trace ++ steps_of whole)
    good_front out whole behind clock split good =
        let begins : trace ++ steps_of out ≡ (trace ++ steps_of whole) ++ steps_of behind =
        ap (λ steps. trace ++ steps) (ap steps_of split ∙ map-append (λ (o : ActedStep). o.step) whole behind) ∙ sym (append_assoc trace (steps_of whole) (steps_of behind)) in
        laws.front policy (trace ++ steps_of whole) (steps_of behind) clock (subst (λ (steps : List Step). Good policy steps clock) begins good)

    -- the trace of steps is that of the same steps with their changes
    same_steps : (out : List ActedStep) (P : List Step → Type 0) → P (trace_of (out_steps out)) → P (steps_of out)
    same_steps out P = subst P (is out)
      where
        is : (out : List ActedStep) → trace_of (out_steps out) ≡ steps_of out
        is [] = refl
        is (o ∷ out) = ap (λ (steps : List Step). o.step ∷ steps) (is out)

    -- what is owed can be continued well
    good_owed : (read : List LogItem) (taken rest : List ℕ) (before after : Stream) (out : List ActedStep)
        → IsOwedWhere setting (taken_log_of setting read taken rest) before after out → (clock : ℕ)
        × Good policy (trace ++ steps_of out) clock
    good_owed read taken rest before after out (inl within) = (
      clock_after first.clock (records_of read),
      same_steps out
          (λ steps. Good policy (trace ++ steps) (clock_after first.clock (records_of read))) within.0.so_far.good,
    )
    good_owed read taken rest before after out (inr (inl so_far, ended)) = (
      clock_after first.clock (records_of read),
      same_steps out
          (λ steps. Good policy (trace ++ steps) (clock_after first.clock (records_of read))) so_far.so_far.good,
    )
    good_owed read taken rest before after out (inr (inr in_all, ended)) = (
      first.clock,
      same_steps out (λ steps. Good policy (trace ++ steps) first.clock)
          (laws.satisfying policy (trace ++ trace_of (out_steps out)) first.clock in_all.is_trace
          in_all.satisfied),
    )

    -- of more steps the first were given, and of the next one's line a part
    abbrev short_steps : (before : Stream) (taken rest : List ℕ) (read : List LogItem) (b c : Stream)
        (out steps whole behind : List ActedStep) (cut : List ℕ) → steps ≡ whole ++ behind
        → AcceptsRecords entries Input first.clock taken read rest
        → Exchanged (UpToDate setting) taken (text_of (names_of entries) (out_steps out)) before.told b.told
        → Gave (text_of (names_of entries) (out_steps whole) ++ cut) b.told c.told
        → IsCutLine (names_of entries) behind cut
        → IsOwedWhere setting (taken_log_of setting read taken rest) before c (out ++ steps) → RunsShort setting before c
    short_steps before taken rest read b c out steps whole behind cut is accepted exchanged gave line owed =
        let given = text_of (names_of entries) (out_steps out) in
        let good = good_owed read taken rest before c (out ++ steps) owed in
        let split : out ++ steps ≡ (out ++ whole) ++ behind = ap (λ (l : List ActedStep). out ++ l) is ∙ sym (append_assoc out whole behind) in
        record {
          taken = taken;
          given = given ++ (text_of (names_of entries) (out_steps whole) ++ cut);
          exchanged = exchanged_gave (UpToDate setting) taken given before.told b.told c.told exchanged (text_of (names_of entries) (out_steps whole) ++ cut) gave;
          read = read;
          rest = rest;
          accepts = accepted;
          out = out ++ steps;
          owed = owed;
          whole = out ++ whole;
          behind = behind;
          split = split;
          cut = cut;
          line = line;
          lines = sym (append_assoc given (text_of (names_of entries) (out_steps whole)) cut) ∙ ap (λ (l : List ℕ). l ++ cut) (sym (lines_behind (names_of entries) out whole));
          good = good_front (out ++ steps) (out ++ whole) behind good.0 split good.1;
        }

    -- the giving of more steps was cut
    module _ (before : Seen) (taken rest : List ℕ) (read : List LogItem) (b c : Seen) (out steps : List ActedStep) (accepted : AcceptsRecords entries Input first.clock taken read rest)
        (exchanged : Exchanged (UpToDate setting) taken (text_of (names_of entries) (out_steps out)) before.gate.told
        b.gate.told) (begun : IsReadBegun before.gate.told b.gate.told)
        (writes : b.gate.write_faults ≡ before.gate.write_faults)
        (actions : SaysActions entries rules out before.report b.report)
        (owed : (bytes : List ℕ) → Gave bytes b.gate.told c.gate.told → c.gate.read_faults
        ≡ b.gate.read_faults → IsOwedWhere setting (taken_log_of setting read taken rest) before.gate c.gate
        (out ++ steps)) where
      abbrev given : List ℕ
      given = text_of (names_of entries) (out_steps out)

      abbrev gate_short : (cut : Cut) (l : CutsLine entries rules steps cut b c) → RunsShort setting before.gate c.gate
      gate_short cut l =
          let bytes = text_of (names_of entries) (out_steps l.whole) ++ l.front in
          short_steps before.gate taken rest read b.gate c.gate out steps l.whole (l.next ∷ l.behind) l.front l.split accepted exchanged l.gave l.part (owed bytes l.gave l.reads)

      abbrev report_short : (cut : Cut) (r : CutsActions entries rules steps cut b c) → RunsShort setting before.gate c.gate
      report_short cut r =
          let lines = text_of (names_of entries) (out_steps (r.first ++ r.last ∷ [])) in
          let gave = subst (λ (l : List ℕ). Gave l b.gate.told c.gate.told) (sym (append-nil lines)) r.lines.gave in
          short_steps before.gate taken rest read b.gate c.gate out steps (r.first ++ r.last ∷ []) r.behind []
          r.split accepted exchanged gave (cut_none (names_of entries) r.behind)
          (owed lines r.lines.gave r.lines.reads)

      abbrev held_short : (cut : Cut) (h : CutsHanding entries rules steps cut b c) → RunsShort setting before.gate c.gate
      held_short cut h =
          let lines = text_of (names_of entries) (out_steps (h.first ++ h.last ∷ [])) in
          let gave = subst (λ (l : List ℕ). Gave l b.gate.told c.gate.told) (sym (append-nil lines)) h.gave in
          short_steps before.gate taken rest read b.gate c.gate out steps (h.first ++ h.last ∷ []) h.behind []
          h.split accepted exchanged gave (cut_none (names_of entries) h.behind)
          (owed lines h.gave h.reads)

      gate_fails : CutsLine entries rules steps cuts.WriteFault b c → FailsAtGate setting before c
      gate_fails l =
          record {
            short = gate_short cuts.WriteFault l;
            more = λ none. absurd (omega (arith, ap length none));
            begun = begun_gave (UpToDate setting) taken given before.gate.told b.gate.told c.gate.told exchanged (text_of (names_of entries) (out_steps l.whole) ++ l.front) l.gave begun;
            writes = l.writes ∙ ap one_more writes;
            actions = says_more entries rules out l.whole before.report b.report c.report actions l.actions;
          }

      report_fails : CutsActions entries rules steps cuts.WriteFault b c → FailsAtReport setting before c
      report_fails r =
          record {
            short = report_short cuts.WriteFault r;
            none = refl;
            handed = r.handed;
            begun = begun_gave (UpToDate setting) taken given before.gate.told b.gate.told c.gate.told exchanged (text_of (names_of entries) (out_steps (r.first ++ r.last ∷ []))) r.lines.gave begun;
            writes = r.lines.writes ∙ writes;
            actions = fails_within entries rules out steps before.report b c actions r;
            some = r.part.some;
          }

      gate_lacks : CutsLine entries rules steps cuts.NoMemory b c → StopsShort none_more setting before c
      gate_lacks l =
          record {
            short = gate_short cuts.NoMemory l;
            writes = l.writes ∙ writes;
            actions = all_said entries rules (out ++ l.whole) before.report c.report (says_more entries rules out l.whole before.report b.report c.report actions l.actions);
          }

      report_lacks : CutsActions entries rules steps cuts.NoMemory b c → StopsShort none_more setting before c
      report_lacks r =
          record { short = report_short cuts.NoMemory r; writes = r.lines.writes ∙ writes; actions = said_in_part entries rules out steps before.report b c actions r }

      held_stops : (cut : Cut) → CutsHanding entries rules steps cut b c → StopsShort (faults_behind cut) setting before c
      held_stops cut h =
          record {
            short = held_short cut h;
            writes = h.writes ∙ ap (faults_behind cut) writes;
            actions = said_but_last entries rules out steps cut before.report b c actions h;
          }

      cut_steps : (cut : Cut) → CutsSteps entries rules steps cut b c → CutsRun setting before c cut
      cut_steps cuts.WriteFault (inl l) = inl (gate_fails l)
      cut_steps cuts.WriteFault (inr (inl r)) = inr (inl (report_fails r))
      cut_steps cuts.WriteFault (inr (inr h)) = inr (inr (held_stops cuts.WriteFault h, h.held))
      cut_steps cuts.NoMemory (inl l) = gate_lacks l
      cut_steps cuts.NoMemory (inr (inl r)) = report_lacks r
      cut_steps cuts.NoMemory (inr (inr h)) = held_stops cuts.NoMemory h

    -- nothing more was given
    stops_all : (faults : ℕ → ℕ) (before c : Seen) (taken rest : List ℕ) (read : List LogItem) (out : List ActedStep)
        → AcceptsRecords entries Input first.clock taken read rest
        → Exchanged (UpToDate setting) taken (text_of (names_of entries) (out_steps out)) before.gate.told c.gate.told
        → IsOwedWhere setting (taken_log_of setting read taken rest) before.gate c.gate out
        → c.gate.write_faults ≡ faults before.gate.write_faults
        → SaysActions entries rules out before.report c.report → StopsShort faults setting before c
    stops_all faults before c taken rest read out accepted exchanged owed writes actions =
        let given = text_of (names_of entries) (out_steps out) in
        let good = good_owed read taken rest before.gate c.gate out owed in
        record {
          short = record {
            taken = taken;
            given = given;
            exchanged = exchanged;
            read = read;
            rest = rest;
            accepts = accepted;
            out = out;
            owed = owed;
            whole = out;
            behind = [];
            split = sym (append-nil out);
            cut = [];
            line = refl;
            lines = sym (append-nil given);
            good = good_front out out [] good.0 (sym (append-nil out)) good.1;
          };
          writes = writes;
          actions = all_said entries rules out before.report c.report actions;
        }

    -- nor where memory ran out
    lacks_all : (before c : Seen) (taken rest : List ℕ) (now : Enforcing) (h : HasRead taken rest now)
        → Exchanged (UpToDate setting) taken (text_of (names_of entries) (out_steps h.out)) before.gate.told
        c.gate.told
        → IsOwedWhere setting (taken_log_of setting h.read taken rest) before.gate c.gate h.out
        → c.gate.write_faults ≡ before.gate.write_faults
        → SaysActions entries rules h.out before.report c.report → StopsShort none_more setting before c
    lacks_all before c taken rest now h exchanged owed writes actions =
        stops_all none_more before c taken rest h.read h.out (accepts taken rest now h) exchanged owed writes actions

    module _ (before : Seen) (taken rest : List ℕ) (accepted : ℕ) (now : Enforcing) (b c : Seen) (h : Progress before taken rest accepted now b) where
      -- one record more was taken, and its lines given
      pub progress_one : (more : List ℕ) (item : LogItem) (after : Enforcing)
          → BeginsWithRecord entries Input rest item more
          → TakesItem entries rules (record_of item) (log_moment now b) (log_moment after c)
          → Progress before taken more (accepted + 1) after c
      progress_one more item after begins t =
          let out = h.so_far.out in
          let steps = acted_steps t.made.steps in
          let given = text_of (names_of entries) (out_steps out) in
          let lines = text_of (names_of entries) (out_steps steps) in
          let gave = t.given.lines in
          record {
            so_far = one_more_read taken rest now h.so_far more item t.made after begins t.takes;
            count = omega (arith, h.count, length_push h.so_far.read item);
            far = subst (λ (g : List ℕ). IsFar (UpToDate setting) before.gate taken g c.gate) (sym (lines_behind (names_of entries) out steps))
                (far_gave (UpToDate setting) before.gate taken given b.gate c.gate h.far lines gave.gave gave.reads);
            writes = gave.writes ∙ h.writes;
            actions = says_more entries rules out steps before.report b.report c.report h.actions t.given.actions;
          }

      -- a piece more was taken
      pub progress_more : IsPending rest → (bytes : List ℕ)
          → TakesBytes (most_log_bytes - length taken) bytes b.gate.told c.gate.told → 0 < length bytes
          → c.gate.read_faults ≡ b.gate.read_faults → WritesNothing b c
          → Progress before (taken ++ bytes) (behind_blanks rest ++ bytes) accepted now c
      progress_more pending bytes takes some reads nothing =
          let so_far = h.so_far in
          let given = text_of (names_of entries) (out_steps so_far.out) in
          record {
            so_far = read_more taken rest now so_far bytes;
            count = h.count;
            far = far_took (UpToDate setting) before.gate taken given b.gate c.gate h.far (up_to_date taken rest now so_far pending) bytes takes some reads;
            writes = nothing.gate ∙ h.writes;
            actions = subst (SaysActions entries rules so_far.out before.report) (sym nothing.report) h.actions;
          }

      -- of one record more the lines are not all given; it came by a read
      pub cut_taken : (cut : Cut) → accepted + length rest ≤ length taken → CutsTaken entries rules rest cut (log_moment now b) c → CutsRun setting before c cut
      cut_taken cut room t =
          let answer = t.answer in
          let more = one_more_read taken rest now h.so_far t.more t.item answer.made answer.after t.begins answer.takes in
          let some : 0 < length taken = omega (arith, room, BeginsWithRecord-shorter entries Input rest t.item t.more t.begins) in
          cut_steps before taken t.more more.read b c h.so_far.out (acted_steps answer.made.steps) (accepts taken t.more answer.after more) h.far.exchanged (h.far.begun some) h.writes h.actions
          (λ bytes gave reads. inl (owed_so_far taken t.more answer.after more, reads ∙ h.far.reads)) cut answer.given

    -- a turn was cut since memory ran out
    pub cut_memory : (before : Seen) (taken : List ℕ) (log : Enforcement) (b c : Seen)
        → Progress before taken log.intake.reader.rest log.intake.accepted log.enforcer b → log.intake.taken
        ≡ length taken
        → LosesTurn log b c → StopsShort none_more setting before c
    cut_memory before taken log b c h count t = by t.told
      where
        reads : c.gate.read_faults ≡ before.gate.read_faults
        reads = t.reads ∙ h.far.reads

        writes : c.gate.write_faults ≡ before.gate.write_faults
        writes = t.nothing.gate ∙ h.writes

        actions : SaysActions entries rules h.so_far.out before.report c.report
        actions = subst (SaysActions entries rules h.so_far.out before.report) (sym t.nothing.report) h.actions

        by : (c.gate.told ≡ b.gate.told) ⊎ LosesBytes log.intake b.gate.told c.gate.told → StopsShort none_more setting before c
        by (inl same) =
            lacks_all before c taken log.intake.reader.rest log.enforcer h.so_far
            (subst (λ (o : Option Exchange). Exchanged (UpToDate setting) taken (text_of (names_of entries) (out_steps h.so_far.out)) before.gate.told o) (sym same) h.far.exchanged)
            (inl (owed_so_far taken log.intake.reader.rest log.enforcer h.so_far, reads)) writes actions
        by (inr lost) =
            let takes = subst (λ (n : ℕ). TakesBytes (most_log_bytes - n) lost.bytes b.gate.told c.gate.told) count lost.takes in
            let rest = behind_blanks log.intake.reader.rest ++ lost.bytes in
            let read = read_more taken log.intake.reader.rest log.enforcer h.so_far lost.bytes in
            let given = text_of (names_of entries) (out_steps h.so_far.out) in
            let exchanged = exchanged_more (UpToDate setting) before.gate taken given b.gate c.gate h.far
            (up_to_date taken log.intake.reader.rest log.enforcer h.so_far lost.pending) lost.bytes takes in
            lacks_all before c (taken ++ lost.bytes) rest log.enforcer read exchanged (inl (owed_so_far (taken ++ lost.bytes) rest log.enforcer read, reads)) writes actions

    -- or since what the gate held back was not handed on
    pub cut_holding : (before : Seen) (taken rest : List ℕ) (accepted : ℕ) (now : Enforcing) (b c : Seen)
        → Progress before taken rest accepted now b → HoldsTurn b c → StopsShort one_more setting before c × (0 < c.gate.held)
    cut_holding before taken rest accepted now b c h t = (
      stops_all one_more before c taken rest h.so_far.read h.so_far.out (accepts taken rest now h.so_far)
          (subst (λ (o : Option Exchange). Exchanged (UpToDate setting) taken (text_of (names_of entries) (out_steps h.so_far.out)) before.gate.told o) (sym t.told) h.far.exchanged)
          (inl (owed_so_far taken rest now h.so_far, t.reads ∙ h.far.reads)) (t.writes ∙ ap one_more h.writes)
          (subst (SaysActions entries rules h.so_far.out before.report) (sym t.report) h.actions),
      t.held,
    )

    owed_at : (left : Bool) (records : List Record) (out : List ActedStep) → IsOwedAtEnd left setting records out → IsOwedSoFar setting records out ⊎ IsOwedInAll setting records out
    owed_at true records out owed = inl owed
    owed_at false records out owed = inr owed

    -- the log ended, and then what the gate held back was not handed on
    ran_held : (left : Bool) (judged : Judged) (enforcer : Enforcing) (faults : ℕ → ℕ) (before b : Seen) (c : Stream)
        → RanSo left setting judged enforcer before b → c.told ≡ b.gate.told → c.read_faults ≡ b.gate.read_faults
        → c.write_faults ≡ faults b.gate.write_faults → StopsShort faults setting before (seen_of c b.report)
    ran_held left judged enforcer faults before b c x told reads writes =
        let r = x.ran in
        let a = r.answers in
        let given = subst (λ (l : List ℕ). Exchanged (UpToDate setting) r.taken l before.gate.told b.gate.told) a.text r.exchanged in
        stops_all faults before (seen_of c b.report) r.taken r.rest a.read a.out a.accepts
        (subst (λ (o : Option Exchange). Exchanged (UpToDate setting) r.taken (text_of (names_of entries) (out_steps a.out)) before.gate.told o) (sym told) given)
        (inr (
          owed_at left (records_of a.read) a.out a.owed,
          (judged.verdict, ends_handed (taken_log_of setting a.read r.taken r.rest) before.gate b.gate c told reads judged.verdict r.ends),
        )) (writes ∙ ap faults r.writes) r.actions

    pub ran_cut : (left : Bool) (judged : Judged) (enforcer : Enforcing) (before b : Seen) (c : Stream) → RanSo left setting judged enforcer before b
        → (cut : Cut) → FlushesGate {T = Unit {0}} (Err cut) b.gate c → CutsRun setting before (seen_of c b.report) cut
    ran_cut left judged enforcer before b c x cuts.WriteFault h =
        inr (inr (ran_held left judged enforcer one_more before b c x h.told h.reads h.writes, h.some_left))
    ran_cut left judged enforcer before b c x cuts.NoMemory h = ran_held left judged enforcer none_more before b c x h.told h.reads h.writes

    module _ (before : Seen) (taken rest : List ℕ) (accepted : ℕ) (now : Enforcing) (verdict : Verdict) (b c : Seen) (e : Ended before taken rest accepted now verdict b) where
      abbrev judged : Judged
      judged = record { accepted = accepted; verdict = verdict }

      -- the log ended, and what is still owed was left
      ran_left : RanSo true setting judged now before b
      ran_left =
          let h = e.so_far in
          record {
            ran = record {
              taken = taken;
              given = text_of (names_of entries) (out_steps h.out);
              exchanged = e.ended.exchanged;
              rest = rest;
              answers = record { read = h.read; accepts = accepts taken rest now h; out = h.out; text = refl; owed = owed_so_far taken rest now h };
              ends = e.ended.ends;
              writes = e.writes;
              actions = e.actions;
            };
            count = e.count;
            behind = record {
              planned = subst (λ (stored : StoredTyped). ArePlanned entries policy (typed_of stored).plans (typed_of stored).guards) (sym h.course.policy) built;
              together = subst (λ (stored : StoredTyped). WorkTogether (typed_of stored)) (sym h.course.policy) may.1;
              clock = h.course.clock;
              stands = h.course.stands;
            };
          }

      -- or what a drain lets out was given
      ran_drained : (after : Enforcing) → GivesDrain entries rules (log_moment now b) (log_moment after c) → RanSo false setting judged after before c
      ran_drained after g =
          let h = e.so_far in
          let steps = acted_steps g.made.steps in
          let lines = text_of (names_of entries) (out_steps steps) in
          let gave = g.given.lines in
          record {
            ran = record {
              taken = taken;
              given = text_of (names_of entries) (out_steps (h.out ++ steps));
              exchanged = subst (λ (l : List ℕ). Exchanged (UpToDate setting) taken l before.gate.told c.gate.told) (sym (lines_behind (names_of entries) h.out steps))
                  (exchanged_gave (UpToDate setting) taken (text_of (names_of entries) (out_steps h.out)) before.gate.told b.gate.told c.gate.told e.ended.exchanged lines gave.gave);
              rest = rest;
              answers = record { read = h.read; accepts = accepts taken rest now h; out = h.out ++ steps; text = refl; owed = owed_in_all taken rest now h g.made after g.drains };
              ends = ends_gave (taken_log_of setting h.read taken rest) before.gate b.gate c.gate lines gave.gave gave.reads verdict e.ended.ends;
              writes = gave.writes ∙ e.writes;
              actions = says_more entries rules h.out steps before.report b.report c.report e.actions g.given.actions;
            };
            count = e.count;
            behind = tt;
          }

      pub ran_rest : (left : Bool) (after : Enforcing) → GivesRest left entries rules (log_moment now b) (log_moment after c) → RanSo left setting judged after before c
      ran_rest true after same = subst (λ (m : LogMoment). RanSo true setting judged m.enforcer before m.seen) (sym same) ran_left
      ran_rest false after g = ran_drained after g

      -- or its lines were not all given
      cut_lines : (cut : Cut) → CutsDrainLines entries rules cut (log_moment now b) c → CutsRun setting before c cut
      cut_lines cut t =
          let h = e.so_far in
          cut_steps before taken rest h.read b c h.out (acted_steps t.made.steps) (accepts taken rest now h) e.ended.exchanged e.ended.begun e.writes e.actions
          (λ bytes gave reads. inr (
            inr (owed_in_all taken rest now h t.made t.after t.drains),
            (
              verdict,
              ends_gave (taken_log_of setting h.read taken rest) before.gate b.gate c.gate bytes gave reads
                  verdict e.ended.ends,
            ),
          )) cut t.given

      pub cut_drain : (cut : Cut) → CutsDrain entries rules (log_moment now b) c cut → CutsRun setting before c cut
      cut_drain cuts.WriteFault t = cut_lines cuts.WriteFault t
      cut_drain cuts.NoMemory (inr t) = cut_lines cuts.NoMemory t
      cut_drain cuts.NoMemory (inl same) =
          let h = e.so_far in
          subst (StopsShort none_more setting before) (sym same)
          (lacks_all before b taken rest now h e.ended.exchanged (inr (inl (owed_so_far taken rest now h), (verdict, e.ended.ends))) e.writes e.actions)
