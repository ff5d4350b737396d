-- How much of a log was taken, whatever the enforcer stands for: one turn more, and how it ends.
use Rattle.enf_run.proofs.Vocabulary.{◌≡◌, ℕ, ◌+◌, ◌-◌, ◌≤◌, Bool, true, false, List, [], ◌∷◌, ◌++◌, length, inl, inr, refl, sym, ap, subst, ◌∙◌, arith, length_push, map-append, one_more, Exchange}
use Rattle.enf_run.proofs.Vocabulary.{Stream, Gave, ◌⊎◌, ActedStep, out_steps, Enforcing, acted_steps, Rule, text_of, behind_blanks, SpellsRecords-append, SpellsRecords-blanks, SpellsRecords-none}
use Rattle.enf_run.proofs.Vocabulary.{SpellsRecords-push, Reader, LogItem, Input, entry_names as names_of, NameEntry, NeverFall, clock_after, Gains, Seen, action_lines, most_log_bytes, record_of}
use Rattle.enf_run.proofs.Vocabulary.{records_of, Exchanged, EndsTurn, LosesBytes, TakesBytes, CutsSteps, AnyExchange, HasWriteFault, LostLog, TookLog, CutsDrain, CutsDrainLines, CutsTurn, HoldsTurn}
use Rattle.enf_run.proofs.Vocabulary.{EnforcesLater, EnforcesOne, GivesRest, IsNewLog, LosesTurn, LogMoment, WritesNothing, log_moment, AcceptsRecords, input_log, taken_log, Cut, Verdict, Enforcement}
use Rattle.std.specs.Prelude.{Option}
use Rattle.enf_run.proofs.AuditLemmas.{clock-push, never_fall-push}
use Rattle.enf_run.proofs.ExchangeLemmas.{exchanged_gave, gave_none}
use Rattle.enf_run.proofs.IntakeLemmas.{IsEnded, IsFar, ends_gave, exchanged_more, far_ended, far_gave, far_none, far_took}
use Rattle.enf_run.proofs.LineLemmas.{gains_more, gains_none}
use Rattle.enf_run.specs.declared.endings.Cut.TheVariants as cuts

-- so much was taken, its records accepted from a clock on, and the enforcer has come to their clock; something was given
-- and said, and no call failed
pub record HasTaken (entries : List NameEntry) (clock : ℕ) (before : Seen) (taken : List ℕ) (log : Enforcement) (after : Seen) : Type 0 where
  pub read : List LogItem
  pub accepts : AcceptsRecords entries Input clock taken read log.intake.reader.rest
  pub count : log.intake.accepted ≡ length read
  pub clock_is : log.enforcer.clock ≡ clock_after clock (records_of read)
  pub given : List ℕ
  pub far : IsFar AnyExchange before.gate taken given after.gate
  pub writes : after.gate.write_faults ≡ before.gate.write_faults
  pub said : List ℕ
  pub report : Gains said before.report after.report

-- lines that were cut, where no write had failed before
module _ (entries : List NameEntry) (rules : List Rule) (before b c : Seen) (gate : b.gate.write_faults ≡ before.gate.write_faults) (report : b.report.write_faults ≡ before.report.write_faults) where
  gave_steps : (steps : List ActedStep) (cut : Cut) → CutsSteps entries rules steps cut b c → (bytes : List ℕ) × Gave bytes b.gate.told c.gate.told
  gave_steps steps cut (inl l) = (text_of (names_of entries) (out_steps l.whole) ++ l.front, l.gave)
  gave_steps steps cut (inr (inl a)) = (text_of (names_of entries) (out_steps (a.first ++ a.last ∷ [])), a.lines.gave)
  gave_steps steps cut (inr (inr h)) = (text_of (names_of entries) (out_steps (h.first ++ h.last ∷ [])), h.gave)

  fault_steps : (steps : List ActedStep) (cut : Cut) → CutsSteps entries rules steps cut b c → HasWriteFault cut before c
  fault_steps steps cuts.WriteFault (inl l) = inl (l.writes ∙ ap one_more gate, l.actions.writes ∙ report)
  fault_steps steps cuts.NoMemory (inl l) = (l.writes ∙ gate, l.actions.writes ∙ report)
  fault_steps steps cuts.WriteFault (inr (inl a)) = inr (a.lines.writes ∙ gate, a.writes ∙ ap one_more report)
  fault_steps steps cuts.WriteFault (inr (inr h)) = inl (h.writes ∙ ap one_more gate, h.actions.writes ∙ report)
  fault_steps steps cuts.NoMemory (inr (inl a)) = (a.lines.writes ∙ gate, a.writes ∙ report)
  fault_steps steps cuts.NoMemory (inr (inr h)) = (h.writes ∙ gate, h.actions.writes ∙ report)

module _ (entries : List NameEntry) (rules : List Rule) (clock : ℕ) (before : Seen) where
  -- before any call
  pub taken_none : (log : Enforcement) → IsNewLog entries log → log.enforcer.clock ≡ clock → HasTaken entries clock before [] log before
  taken_none log new is =
      record {
        read = [];
        accepts = subst (λ (rest : List ℕ). AcceptsRecords entries Input clock [] [] rest)
            (sym (ap (λ (r : Reader). r.rest) new.intake.reader))
            (record { spelled = SpellsRecords-none entries Input []; rising = tt });
        count = new.intake.accepted;
        clock_is = is;
        given = [];
        far = far_none AnyExchange before.gate;
        writes = refl;
        said = [];
        report = gains_none before.report;
      }

  module _ (taken : List ℕ) (old new : Enforcement) (b c : Seen) (h : HasTaken entries clock before taken old b) where
    -- one record more was taken
    pub taken_one : EnforcesOne entries rules old new b c → HasTaken entries clock before taken new c
    taken_one one =
        let t = one.takes in
        let records = records_of h.read in
        let next = record_of t.item in
        let moved = t.taken.takes in
        let steps = acted_steps t.taken.made.steps in
        let lines = t.taken.given.lines in
        let is : records_of (h.read ++ t.item ∷ []) ≡ records ++ next ∷ [] = map-append record_of h.read (t.item ∷ []) in
        record {
          read = h.read ++ t.item ∷ [];
          accepts = record {
            spelled = SpellsRecords-push entries Input taken h.read old.intake.reader.rest t.item new.intake.reader.rest h.accepts.spelled t.begins;
            rising = subst (NeverFall clock) (sym is) (never_fall-push clock records next h.accepts.rising (omega (arith, moved.in_time.not_over, h.clock_is)));
          };
          count = omega (arith, one.accepted, h.count, length_push h.read t.item);
          clock_is = moved.goes_on.clock_is ∙ sym (clock-push clock records next) ∙ ap (clock_after clock) (sym is);
          given = h.given ++ text_of (names_of entries) (out_steps steps);
          far = far_gave AnyExchange before.gate taken h.given b.gate c.gate h.far (text_of (names_of entries) (out_steps steps)) lines.gave lines.reads;
          writes = lines.writes ∙ h.writes;
          said = h.said ++ action_lines entries rules steps;
          report = gains_more h.said (action_lines entries rules steps) before.report b.report c.report h.report t.taken.given.actions;
        }

    abbrev read_more : (bytes : List ℕ) → AcceptsRecords entries Input clock (taken ++ bytes) h.read (behind_blanks old.intake.reader.rest ++ bytes)
    read_more bytes =
        record {
          spelled = SpellsRecords-append entries Input taken h.read (behind_blanks old.intake.reader.rest) bytes
              (SpellsRecords-blanks entries Input taken h.read old.intake.reader.rest h.accepts.spelled);
          rising = h.accepts.rising;
        }

    -- a piece more was taken
    pub taken_more : old.intake.taken ≡ length taken → (later : EnforcesLater entries old new b c) → HasTaken entries clock before (taken ++ later.piece.bytes) new c
    taken_more count later =
        let p = later.piece in
        let takes = subst (λ (n : ℕ). TakesBytes (most_log_bytes - n) p.bytes b.gate.told c.gate.told) count p.takes in
        record {
          read = h.read;
          accepts = subst (AcceptsRecords entries Input clock (taken ++ p.bytes) h.read) (sym (ap (λ (r : Reader). r.rest) p.reader)) (read_more p.bytes);
          count = p.accepted ∙ h.count;
          clock_is = ap (λ (e : Enforcing). e.clock) later.enforcer ∙ h.clock_is;
          given = h.given;
          far = far_took AnyExchange before.gate taken h.given b.gate c.gate h.far tt p.bytes takes p.some p.reads;
          writes = later.nothing.gate ∙ h.writes;
          said = h.said;
          report = subst (Gains h.said before.report) (sym later.nothing.report) h.report;
        }

    -- ---- a turn was cut

    abbrev Lost : Cut → Type 0
    Lost cut = LostLog (input_log entries clock) before c cut

    lost_steps : (steps : List ActedStep) (cut : Cut) → CutsSteps entries rules steps cut b c → Lost cut
    lost_steps steps cut cuts =
        let given = gave_steps entries rules before b c h.writes h.report.writes steps cut cuts in
        record {
          log = record {
            taken = taken;
            given = h.given ++ given.0;
            exchanged = exchanged_gave AnyExchange taken h.given before.gate.told b.gate.told c.gate.told h.far.exchanged given.0 given.1;
            read = h.read;
            rest = old.intake.reader.rest;
            accepts = h.accepts;
          };
          fault = fault_steps entries rules before b c h.writes h.report.writes steps cut cuts;
        }

    -- nothing was done where memory ran out, but that a piece may have been lost
    lost_turn : old.intake.taken ≡ length taken → LosesTurn old b c → Lost cuts.NoMemory
    lost_turn count t = by t.told
      where
        fault : HasWriteFault cuts.NoMemory before c
        fault = (t.nothing.gate ∙ h.writes, ap (λ (s : Stream). s.write_faults) t.nothing.report ∙ h.report.writes)

        by : (c.gate.told ≡ b.gate.told) ⊎ LosesBytes old.intake b.gate.told c.gate.told → Lost cuts.NoMemory
        by (inl same) =
            record {
              log = record {
                taken = taken;
                given = h.given;
                exchanged = subst (λ (o : Option Exchange). Exchanged AnyExchange taken h.given before.gate.told o) (sym same) h.far.exchanged;
                read = h.read;
                rest = old.intake.reader.rest;
                accepts = h.accepts;
              };
              fault = fault;
            }
        by (inr lost) =
            let takes = subst (λ (n : ℕ). TakesBytes (most_log_bytes - n) lost.bytes b.gate.told c.gate.told) count lost.takes in
            record {
              log = record {
                taken = taken ++ lost.bytes;
                given = h.given;
                exchanged = exchanged_more AnyExchange before.gate taken h.given b.gate c.gate h.far tt lost.bytes takes;
                read = h.read;
                rest = behind_blanks old.intake.reader.rest ++ lost.bytes;
                accepts = read_more lost.bytes;
              };
              fault = fault;
            }

    -- or what the gate held back was not handed on
    lost_holding : HoldsTurn b c → Lost cuts.WriteFault
    lost_holding t =
        record {
          log = record {
            taken = taken;
            given = h.given;
            exchanged = subst (λ (o : Option Exchange). Exchanged AnyExchange taken h.given before.gate.told o) (sym t.told) h.far.exchanged;
            read = h.read;
            rest = old.intake.reader.rest;
            accepts = h.accepts;
          };
          fault = inl (t.writes ∙ ap one_more h.writes, ap (λ (s : Stream). s.write_faults) t.report ∙ h.report.writes);
        }

    pub lost_so : old.intake.taken ≡ length taken → (cut : Cut) → CutsTurn entries rules old b c cut → Lost cut
    lost_so count cuts.WriteFault (inl t) = lost_holding t
    lost_so count cuts.WriteFault (inr t) = lost_steps (acted_steps t.answer.made.steps) cuts.WriteFault t.answer.given
    lost_so count cuts.NoMemory (inl t) = lost_turn count t
    lost_so count cuts.NoMemory (inr t) = lost_steps (acted_steps t.answer.made.steps) cuts.NoMemory t.answer.given

  -- ---- the log ended, by a turn that led from old to new, and then what is owed was given, or left

  module _ (taken : List ℕ) (old : Enforcement) (a b c : Seen) (h : HasTaken entries clock before taken old a) (nothing : WritesNothing a b) (count : old.intake.taken ≡ length taken)
      (room : old.intake.accepted + length old.intake.reader.rest ≤ old.intake.taken) (verdict : Verdict) (ends : EndsTurn entries Input old.enforcer.clock old.intake a.gate b.gate verdict) where
    abbrev ended : IsEnded AnyExchange (taken_log (input_log entries clock) h.read taken old.intake.reader.rest) verdict before.gate taken h.given b.gate
    ended = far_ended AnyExchange before.gate taken h.given a.gate b.gate h.far (input_log entries clock) h.read old.enforcer.clock h.clock_is old.intake count room (λ pending. tt) verdict ends

    abbrev Took : Type 0
    Took = TookLog (input_log entries clock) (record { accepted = old.intake.accepted; verdict = verdict }) before c

    said_so : Gains h.said before.report b.report
    said_so = subst (Gains h.said before.report) (sym nothing.report) h.report

    took_more : (bytes said : List ℕ) → Gains bytes b.gate c.gate → Gains said b.report c.report → Took
    took_more bytes said lines actions =
        record {
          whole = record {
            log = record {
              taken = taken;
              given = h.given ++ bytes;
              exchanged = exchanged_gave AnyExchange taken h.given before.gate.told b.gate.told c.gate.told ended.exchanged bytes lines.gave;
              read = h.read;
              rest = old.intake.reader.rest;
              accepts = h.accepts;
            };
            ends = ends_gave (taken_log (input_log entries clock) h.read taken old.intake.reader.rest) before.gate b.gate c.gate bytes lines.gave lines.reads verdict ended.ends;
          };
          count = h.count;
          writes = lines.writes ∙ nothing.gate ∙ h.writes;
          said = h.said ++ said;
          report = gains_more h.said said before.report b.report c.report said_so actions;
        }

    pub took_so : (left : Bool) (now after : Enforcing) → GivesRest left entries rules (log_moment now b) (log_moment after c) → Took
    took_so true now after same = let seen : c ≡ b = ap (λ (m : LogMoment). m.seen) same in
        took_more [] [] (subst (λ (s : Seen). Gains [] b.gate s.gate) (sym seen) (gains_none b.gate)) (subst (λ (s : Seen). Gains [] b.report s.report) (sym seen) (gains_none b.report))
    took_so false now after g = took_more (text_of (names_of entries) (out_steps (acted_steps g.made.steps))) (action_lines entries rules (acted_steps g.made.steps)) g.given.lines g.given.actions

    -- or its lines were not all given
    lost_given : (cut : Cut) (bytes : List ℕ) → Gave bytes b.gate.told c.gate.told → HasWriteFault cut before c → LostLog (input_log entries clock) before c cut
    lost_given cut bytes gave fault =
        record {
          log = record {
            taken = taken;
            given = h.given ++ bytes;
            exchanged = exchanged_gave AnyExchange taken h.given before.gate.told b.gate.told c.gate.told ended.exchanged bytes gave;
            read = h.read;
            rest = old.intake.reader.rest;
            accepts = h.accepts;
          };
          fault = fault;
        }

    lost_lines : (cut : Cut) (now : Enforcing) → CutsDrainLines entries rules cut (log_moment now b) c → LostLog (input_log entries clock) before c cut
    lost_lines cut now t =
        let writes = nothing.gate ∙ h.writes in
        let steps = acted_steps t.made.steps in
        let given = gave_steps entries rules before b c writes said_so.writes steps cut t.given in
        lost_given cut given.0 given.1 (fault_steps entries rules before b c writes said_so.writes steps cut t.given)

    pub lost_rest : (now : Enforcing) (cut : Cut) → CutsDrain entries rules (log_moment now b) c cut → LostLog (input_log entries clock) before c cut
    lost_rest now cuts.WriteFault t = lost_lines cuts.WriteFault now t
    lost_rest now cuts.NoMemory (inr t) = lost_lines cuts.NoMemory now t
    lost_rest now cuts.NoMemory (inl same) =
        lost_given cuts.NoMemory [] (subst (λ (s : Seen). Gave [] b.gate.told s.gate.told) (sym same) (gave_none b.gate.told))
        (ap (λ (s : Seen). s.gate.write_faults) same ∙ nothing.gate ∙ h.writes, ap (λ (s : Seen). s.report.write_faults) same ∙ said_so.writes)
