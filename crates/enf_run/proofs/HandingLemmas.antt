-- What a gate is given is the same once what it held back is handed on: how the run of a log ends, before that and after.
use Rattle.enf_run.proofs.Vocabulary.{◌≡◌, ℕ, List, [], refl, sym, ap, subst, ◌∙◌, inl, inr, Option, Err, Ok, Exchange, Stream, Gave, one_more, none_more, ActedStep, Record, Enforcing, UpToDate}
use Rattle.enf_run.proofs.Vocabulary.{LogSetting, reading_of, Exchanged, Seen, seen_of, AnyExchange, IsOwedWhere, LostLog, RunsLogFor, StopsShort, TookLog, CutsRun, RanSo}
use Rattle.enf_run.proofs.Vocabulary.{IsOwedAtEnd, LogEndsAs, LogReading, TakenLog, taken_log, FlushesGate, Cut, Judged, Verdict, Intake, AnswersRead, CutsPiece, EndsIntake}
use Rattle.enf_run.proofs.Vocabulary.{IoRefusal, cut_after_file, LosesPiece, ReadMeetsEnd, Took, TookNothing, TakesBytes, takeable_bytes, ReadsLog}
use Rattle.std.specs.Prelude.{Bool, None, Some, Result, IfOk, IfErr, OnOk}
use Rattle.enf_io.specs.machine.StreamCalls.{Flushes}
use Rattle.enf_run.proofs.ExchangeLemmas.{gave_none}
use Rattle.enf_run.proofs.IntakeLemmas.{ends_gave}
use Rattle.enf_io.specs.declared.devices.IoRefusal.TheVariants as io
use Rattle.enf_run.specs.declared.intake.Verdict.TheVariants as verdicts
use Rattle.enf_run.specs.declared.endings.Cut.TheVariants as cuts

-- ---- a flush

-- what a flush that is refused does to the gate, as what cuts the work
pub flush_cut : (why : IoRefusal) (a b : Stream) → Flushes {T = Unit {0}} (Err why) a b → FlushesGate {T = Unit {0}} (Err (cut_after_file why)) a b
flush_cut io.Failed a b f = record { told = f.told; whole = tt; some_left = f.some_left; failed = refl; writes = f.writes; reads = f.reads; late = f.late }
flush_cut io.NoMemory a b f = let wrong : ◌≡◌ {A = IoRefusal} io.NoMemory io.Failed = f.failed in absurd cc

-- ---- the end of a log

module _ (b c : Stream) (told : c.told ≡ b.told) (reads : c.read_faults ≡ b.read_faults) where
  gave_handed : Gave [] b.told c.told
  gave_handed = subst (λ (o : Option Exchange). Gave [] b.told o) (sym told) (gave_none b.told)

pub ends_handed : (t : TakenLog) (before b c : Stream) → c.told ≡ b.told → c.read_faults ≡ b.read_faults → (verdict : Verdict)
    → LogEndsAs t before b verdict → LogEndsAs t before c verdict
ends_handed t before b c told reads verdict ends = ends_gave t before b c [] (gave_handed b c told reads) reads verdict ends

module _ (before b : Seen) (c : Stream) where
  abbrev after : Seen
  after = seen_of c b.report

  -- what gate and report gained until the end of a log
  runs_handed : (IsOwed : List Record → List ActedStep → Type 0) (s : LogSetting) (verdict : Verdict) → RunsLogFor IsOwed s verdict before b
      → c.told ≡ b.gate.told → c.read_faults ≡ b.gate.read_faults → c.write_faults ≡ b.gate.write_faults → RunsLogFor IsOwed s verdict before after
  runs_handed IsOwed s verdict r told reads writes =
      record {
        taken = r.taken;
        given = r.given;
        exchanged = subst (λ (o : Option Exchange). Exchanged (UpToDate s) r.taken r.given before.gate.told o) (sym told) r.exchanged;
        rest = r.rest;
        answers = r.answers;
        ends = ends_handed (taken_log (reading_of s) r.answers.read r.taken r.rest) before.gate b.gate c told reads verdict r.ends;
        writes = writes ∙ r.writes;
        actions = r.actions;
      }

  pub ran_handed : (left : Bool) (s : LogSetting) (judged : Judged) (enforcer : Enforcing) → RanSo left s judged enforcer before b
      → FlushesGate {T = Unit {0}} (Ok tt) b.gate c → RanSo left s judged enforcer before after
  unfolding runs_handed
  ran_handed left s judged enforcer x h =
      record { ran = runs_handed (IsOwedAtEnd left s) s judged.verdict x.ran h.told h.reads h.writes; count = x.count; behind = x.behind }

  pub took_handed : (r : LogReading) (judged : Judged) → TookLog r judged before b → FlushesGate {T = Unit {0}} (Ok tt) b.gate c → TookLog r judged before after
  took_handed r judged t h =
      let log = t.whole.log in
      record {
        whole = record {
          log = record {
            taken = log.taken;
            given = log.given;
            exchanged = subst (λ (o : Option Exchange). Exchanged AnyExchange log.taken log.given before.gate.told o) (sym h.told) log.exchanged;
            read = log.read;
            rest = log.rest;
            accepts = log.accepts;
          };
          ends = ends_handed (taken_log r log.read log.taken log.rest) before.gate b.gate c h.told h.reads judged.verdict t.whole.ends;
        };
        count = t.count;
        writes = h.writes ∙ t.writes;
        said = t.said;
        report = t.report;
      }

  abbrev log_handed : (r : LogReading) → ReadsLog AnyExchange r before.gate b.gate → c.told ≡ b.gate.told → ReadsLog AnyExchange r before.gate c
  log_handed r log told =
      record {
        taken = log.taken;
        given = log.given;
        exchanged = subst (λ (o : Option Exchange). Exchanged AnyExchange log.taken log.given before.gate.told o) (sym told) log.exchanged;
        read = log.read;
        rest = log.rest;
        accepts = log.accepts;
      }

  -- it was not handed on, after a log that was taken
  pub took_held : (r : LogReading) (judged : Judged) → TookLog r judged before b → (cut : Cut) → FlushesGate {T = Unit {0}} (Err cut) b.gate c → LostLog r before after cut
  took_held r judged t cuts.WriteFault h =
      record { log = log_handed r t.whole.log h.told; fault = inl (h.writes ∙ ap one_more t.writes, t.report.writes) }
  took_held r judged t cuts.NoMemory h = record { log = log_handed r t.whole.log h.told; fault = (h.writes ∙ t.writes, t.report.writes) }

  -- or after memory ran out
  pub lost_held : (r : LogReading) → LostLog r before b cuts.NoMemory → (cut : Cut) → FlushesGate {T = Unit {0}} (Err cut) b.gate c → LostLog r before after cut
  lost_held r l cuts.WriteFault h = record { log = log_handed r l.log h.told; fault = inl (h.writes ∙ ap one_more l.fault.0, l.fault.1) }
  lost_held r l cuts.NoMemory h = record { log = log_handed r l.log h.told; fault = (h.writes ∙ l.fault.0, l.fault.1) }

  pub lost_handed : (r : LogReading) → LostLog r before b cuts.NoMemory → FlushesGate {T = Unit {0}} (Ok tt) b.gate c → LostLog r before after cuts.NoMemory
  lost_handed r l h = record { log = log_handed r l.log h.told; fault = (h.writes ∙ l.fault.0, l.fault.1) }

  owed_handed : (s : LogSetting) (t : TakenLog) (out : List ActedStep) → c.told ≡ b.gate.told → c.read_faults ≡ b.gate.read_faults
      → IsOwedWhere s t before.gate b.gate out → IsOwedWhere s t before.gate c out
  owed_handed s t out told reads (inl (so_far, none)) = inl (so_far, reads ∙ none)
  owed_handed s t out told reads (inr (owed, (verdict, ends))) = inr (owed, (verdict, ends_handed t before.gate b.gate c told reads verdict ends))

  abbrev stops_so : (faults : ℕ → ℕ) (s : LogSetting) → StopsShort none_more s before b → c.told ≡ b.gate.told → c.read_faults ≡ b.gate.read_faults
      → c.write_faults ≡ faults b.gate.write_faults → StopsShort faults s before after
  stops_so faults s x told reads writes =
      let short = x.short in
      record {
        short = record {
          taken = short.taken;
          given = short.given;
          exchanged = subst (λ (o : Option Exchange). Exchanged (UpToDate s) short.taken short.given before.gate.told o) (sym told) short.exchanged;
          read = short.read;
          rest = short.rest;
          accepts = short.accepts;
          out = short.out;
          owed = owed_handed s (taken_log (reading_of s) short.read short.taken short.rest) short.out told reads short.owed;
          whole = short.whole;
          behind = short.behind;
          split = short.split;
          cut = short.cut;
          line = short.line;
          lines = short.lines;
          good = short.good;
        };
        writes = writes ∙ ap faults x.writes;
        actions = x.actions;
      }

  pub stops_handed : (s : LogSetting) → CutsRun s before b cuts.NoMemory → FlushesGate {T = Unit {0}} (Ok tt) b.gate c → CutsRun s before after cuts.NoMemory
  stops_handed s x h = stops_so none_more s x h.told h.reads h.writes

  pub stops_held : (s : LogSetting) → CutsRun s before b cuts.NoMemory → (cut : Cut) → FlushesGate {T = Unit {0}} (Err cut) b.gate c → CutsRun s before after cut
  stops_held s x cuts.WriteFault h = inr (inr (stops_so one_more s x h.told h.reads h.writes, h.some_left))
  stops_held s x cuts.NoMemory h = stops_so none_more s x h.told h.reads h.writes

-- ---- a read after it

module _ (a b c : Stream) (told : b.told ≡ a.told) (reads : b.read_faults ≡ a.read_faults) where
  met_handed : (taken : ℕ) → ReadMeetsEnd taken b c → ReadMeetsEnd taken a c
  met_handed taken m =
      record { took = subst (λ (o : Option Exchange). Took [] o c.told) told m.took; at_end = m.at_end; below = m.below; reads = m.reads ∙ reads }

  ends_read : (rest : List ℕ) (taken : ℕ) (verdict : Verdict) → EndsIntake rest taken b c verdict → EndsIntake rest taken a c verdict
  ends_read rest taken verdicts.Accepted e = (e.0, met_handed taken e.1)
  ends_read rest taken verdicts.Fault e = (subst (λ (o : Option Exchange). TookNothing o c.told) told e.0, e.1 ∙ ap one_more reads)
  ends_read rest taken (verdicts.Refused why) (inl (is, cut, m)) = inl (is, cut, met_handed taken m)
  ends_read rest taken (verdicts.Refused why) (inr (is, all, left)) = inr (is, all, (left.0 ∙ told, left.1 ∙ reads))

  pub read_handed : (old new : Intake) (verdict : Option Verdict) → AnswersRead verdict old new b c → AnswersRead verdict old new a c
  read_handed old new None g =
      record {
        bytes = g.bytes;
        takes = subst (λ (o : Option Exchange). TakesBytes (takeable_bytes old) g.bytes o c.told) told g.takes;
        some = g.some;
        reader = g.reader;
        accepted = g.accepted;
        taken = g.taken;
        reads = g.reads ∙ reads;
      }
  read_handed old new (Some verdict) g = (g.0, ends_read old.reader.rest old.taken verdict g.1)

pub piece_held : (left : ℕ) (a b : Stream) (cut : Cut) → FlushesGate {T = Unit {0}} (Err cut) a b → CutsPiece left a b cut
piece_held left a b cuts.WriteFault h = (h.told, h.some_left, h.writes, h.reads)
piece_held left a b cuts.NoMemory h = ((inl h.told, h.reads), h.writes)

pub piece_lost : (left : ℕ) (a b c : Stream) → b.told ≡ a.told → b.read_faults ≡ a.read_faults → b.write_faults ≡ a.write_faults → LosesPiece left b c
    → c.write_faults ≡ b.write_faults → CutsPiece left a c cuts.NoMemory
piece_lost left a b c told reads writes (inl same, more) wrote = ((inl (same ∙ told), more ∙ reads), wrote ∙ writes)
piece_lost left a b c told reads writes (inr (bytes, takes), more) wrote =
    ((inr (bytes, subst (λ (o : Option Exchange). TakesBytes left bytes o c.told) told takes), more ∙ reads), wrote ∙ writes)

-- two facts of an Ok give a third
pub ok_both : {T E W : Type 0} (P Q : T → Type 0) (result : Result T E) → ((value : T) → P value → W → Q value) → IfOk result P → OnOk result W → IfOk result Q
ok_both P Q (Ok value) both p w = both value p w
ok_both P Q (Err why) both p w = tt

pub err_weaker : {T E : Type 0} (P Q : E → Type 0) (result : Result T E) → ((why : E) → P why → Q why) → IfErr result P → IfErr result Q
err_weaker P Q (Ok value) weaker p = tt
err_weaker P Q (Err why) weaker p = weaker why p
