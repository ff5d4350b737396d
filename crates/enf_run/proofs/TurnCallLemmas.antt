-- What one turn of the run of a log does, from what its calls do.
use Rattle.enf_run.proofs.Vocabulary.{◌≡◌, ℕ, List, refl, sym, ap, subst, ◌∙◌, inl, inr, Option, None, Some, Global, Vec, Stream, Enforcing, BeginsWithRecord, LogItem, Input, NameEntry, AnswersRead}
use Rattle.enf_run.proofs.Vocabulary.{EndsIntake, GetsPiece, RefusesNext, record_of, Record, AnswersTurn, CutsAnswer, CutsItem, CutsNext, CutsTurn, LeavesItem, LogMoment, WaitsForMore, WritesNothing}
use Rattle.enf_run.proofs.Vocabulary.{◌-◌, ◌⊎◌, CutsPiece, LosesBytes, TakesBytes, most_log_bytes, one_more, takeable_bytes, log_front, log_moment, Seen, seen_of, Rule, Cut, Enforcement, Intake}
use Rattle.enf_run.proofs.Vocabulary.{Verdict, RecordRefusal}
use Rattle.enf_run.proofs.IntakeLemmas.{IsBehindBlanks, ends_intake, takes_more}
use Rattle.enf_run.specs.declared.endings.Cut.TheVariants as cuts

-- a record whose time is below the clock is refused
pub falls : (entries : List NameEntry) (rest more : List ℕ) (item : LogItem) (why : RecordRefusal) (from to : LogMoment) → BeginsWithRecord entries Input rest item more
    → LeavesItem (record_of item) why from to → RefusesNext entries Input rest from.enforcer.clock why × (to ≡ from)
falls entries rest more item why from to begins l = (
  subst (RefusesNext entries Input rest from.enforcer.clock) (sym l.falls)
      (refl, record { item = item; more = more; begins = begins; time = refl; below = l.below }),
  (λ i. record { enforcer = l.enforcer i; seen = l.seen i }),
)

-- what cut the answer of a record cut that of the front
pub cuts_next : (entries : List NameEntry) (rules : List Rule) (rest more : List ℕ) (item : LogItem) (from : LogMoment) (seen : Seen) (cut : Cut) → BeginsWithRecord entries Input rest item more
    → CutsItem entries rules (record_of item) from seen cut → CutsNext entries rules rest from seen cut
cuts_next entries rules rest more item from seen cuts.WriteFault begins c = record { item = item; more = more; begins = begins; answer = c }
cuts_next entries rules rest more item from seen cuts.NoMemory begins (inl same) = inl same
cuts_next entries rules rest more item from seen cuts.NoMemory begins (inr c) = inr (record { item = item; more = more; begins = begins; answer = c })

-- what cut the answer of the front cut a turn
pub cuts_turn : (entries : List NameEntry) (rules : List Rule) (log : Enforcement) (before after : Seen) (cut : Cut)
    → CutsNext entries rules log.intake.reader.rest (log_moment log.enforcer before) after cut
    → CutsTurn entries rules log before after cut
cuts_turn entries rules log before after cuts.WriteFault t = inr t
cuts_turn entries rules log before after cuts.NoMemory (inl same) =
    inl (record {
      told = inl (ap (λ (s : Seen). s.gate.told) same);
      reads = ap (λ (s : Seen). s.gate.read_faults)
          same;
      nothing = record {
        gate = ap (λ (s : Seen). s.gate.write_faults) same;
        report = ap
            (λ (s : Seen). s.report) same;
      };
    })
cuts_turn entries rules log before after cuts.NoMemory (inr t) = inr t

-- no record was whole, and blanks were let go
module _ (entries : List NameEntry) (old : Enforcement) (middle : Intake) (now : Enforcing) (before between : Seen)
    (waits : WaitsForMore entries (log_front old.intake.reader old.enforcer before)
    (log_front middle.reader now between))
    (accepted : middle.accepted ≡ old.intake.accepted) (taken : middle.taken ≡ old.intake.taken) where
  pub behind_blanks_now : IsBehindBlanks entries Input old.intake middle
  behind_blanks_now = record { pending = waits.pending; reader_is = waits.reader_is; accepted = accepted; taken = taken }

  same_seen : between ≡ before
  same_seen = ap (λ (m : LogMoment). m.seen) waits.now

  same_enforcer : now ≡ old.enforcer
  same_enforcer = ap (λ (m : LogMoment). m.enforcer) waits.now

  module _ (rules : List Rule) (new : Intake) (c : Stream) where
    -- nothing is written by a read
    nothing : c.write_faults ≡ between.gate.write_faults → WritesNothing before (seen_of c between.report)
    nothing writes = record { gate = writes ∙ ap (λ (s : Seen). s.gate.write_faults) same_seen; report = ap (λ (s : Seen). s.report) same_seen }

    -- the turn did what the read did
    pub turn_read : (line : Vec ℕ Global) (verdict : Option Verdict) → AnswersRead verdict middle new between.gate c
        → c.write_faults ≡ between.gate.write_faults
        → AnswersTurn entries rules verdict old (record { intake = new; enforcer = now; line = line }) before (seen_of c between.report)
    turn_read line None g writes =
        inr (record {
          piece = takes_more entries Input old.intake middle behind_blanks_now new before.gate c (subst (λ (s : Seen). GetsPiece middle new s.gate c) same_seen g);
          enforcer = same_enforcer;
          nothing = nothing writes;
        })
    turn_read line (Some verdict) g writes = (
      g.0 ∙ accepted,
      same_enforcer,
      nothing writes,
      inr (
        waits.pending,
        ends_intake entries Input old.intake middle behind_blanks_now before.gate c verdict
            (subst (λ (s : Seen). EndsIntake middle.reader.rest middle.taken s.gate c verdict) same_seen g.1),
      ),
    )

    -- or it was cut
    pub turn_cut : (cut : Cut) → CutsPiece (takeable_bytes middle) between.gate c cut → CutsTurn entries rules old before (seen_of c between.report) cut
    turn_cut cuts.WriteFault h =
        inl (record {
          told = h.0 ∙ ap (λ (s : Seen). s.gate.told) same_seen;
          held = h.1;
          writes = h.2 ∙ ap (λ (s : Seen). one_more s.gate.write_faults) same_seen;
          reads = h.3 ∙ ap (λ (s : Seen). s.gate.read_faults) same_seen;
          report = ap (λ (s : Seen). s.report) same_seen;
        })
    turn_cut cuts.NoMemory h =
        inl (record {
          told = lost h.0.0;
          reads = h.0.1 ∙ ap (λ (s : Seen). s.gate.read_faults) same_seen;
          nothing = record { gate = h.1 ∙ ap (λ (s : Seen). s.gate.write_faults) same_seen; report = ap (λ (s : Seen). s.report) same_seen };
        })
      where
        lost : (c.told ≡ between.gate.told) ⊎ ((bytes : List ℕ) × TakesBytes (takeable_bytes middle) bytes between.gate.told c.told)
            → (c.told ≡ before.gate.told) ⊎ LosesBytes old.intake before.gate.told c.told
        lost (inl same) = inl (same ∙ ap (λ (s : Seen). s.gate.told) same_seen)
        lost (inr (bytes, takes)) =
            inr (record {
              pending = waits.pending;
              bytes = bytes;
              takes = subst (λ (n : ℕ). TakesBytes (most_log_bytes - n) bytes before.gate.told c.told) taken
                  (subst (λ (s : Seen). TakesBytes (takeable_bytes middle) bytes s.gate.told c.told) same_seen takes);
            })

-- a record was taken, and its lines were cut, for whatever cause
pub cuts_answer : (entries : List NameEntry) (rules : List Rule) (next : Record) (from : LogMoment) (seen : Seen) (cut : Cut)
    → CutsAnswer entries rules next cut from seen → CutsItem entries rules next from seen cut
cuts_answer entries rules next from seen cuts.WriteFault lines = lines
cuts_answer entries rules next from seen cuts.NoMemory lines = inr lines
