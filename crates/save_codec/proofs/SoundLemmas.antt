-- The lines of a sound state keep the bounds.
use Rattle.save_codec.proofs.Vocabulary.{◌≡◌, ◌++◌, ◌∷◌, [], ◌≤◌, List, true, Contains, map, refl, sym, ap, subst, arith, AllByRecursion, All-contains, here, later, VarId, same_free}
use Rattle.save_codec.proofs.Vocabulary.{FoundHasRisingScope, IsScopedPlan, AreWithinBounds, all_operators, kept_operand, KeptRow, CanBePending, Instance, DueFits, AreLinesWithin, RowFits, RuleTells}
use Rattle.save_codec.proofs.Vocabulary.{SaveSetting, kept_row_of, line_of_due, line_of_row, due_line, lines_of, row_line, values_in, FitTold, GuardTells, IsSoundInstance, IsSoundRow}
use Rattle.save_codec.proofs.Vocabulary.{SoundKeepsBounds, MOST_STATE_TIME, Clock, Last, Position, End, DueLine, RowLine, Snapshot}
use Rattle.save_codec.proofs.InstanceLemmas.{scope_rises, wait_same}
use Rattle.save_codec.proofs.SavedTexts.{fits_scope, values_there}
use Rattle.save_codec.proofs.StateLemmas.{keep_is_within, whole}

-- ---- the lines of rows and instances

abbrev row_of : KeptRow → RowLine
row_of r = record { window = r.window; time = r.time; values = r.row }

abbrev due_of : Instance → DueLine
due_of i = record { rule = i.rule; node = i.node; origin = i.origin; low = i.low; high = i.high; values = values_in i.valuation }

rows_back : (rows : List KeptRow) → map kept_row_of (map row_of rows) ≡ rows
rows_back [] = refl
rows_back (r ∷ rows) = ap (λ l. r ∷ l) (rows_back rows)

row_lines : (rows : List KeptRow) → map row_line rows ≡ map line_of_row (map row_of rows)
row_lines [] = refl
row_lines (r ∷ rows) = ap (λ l. row_line r ∷ l) (row_lines rows)

due_lines : (pending : List Instance) → map due_line pending ≡ map line_of_due (map due_of pending)
due_lines [] = refl
due_lines (i ∷ pending) = ap (λ l. due_line i ∷ l) (due_lines pending)

lines_are : (state : Snapshot) → lines_of state ≡ whole state.clock state.last state.position (map row_of state.kept) (map due_of state.pending) true
lines_are state = λ k. Clock state.clock ∷ Last state.last ∷ Position state.position ∷ (row_lines state.kept k ++ (due_lines state.pending k ++ End ∷ []))

each_mapped : {X Y : Type 0} (P : Y → Type 0) (f : X → Y) (xs : List X) → ((x : X) → Contains xs x → P (f x)) → AllByRecursion P (map f xs)
each_mapped P f [] each = tt
each_mapped P f (x ∷ xs) each = (each x (here x xs), each_mapped P f xs (λ y there. each y (later y x xs there)))

-- ---- the bounds of each

row_fits : (s : SaveSetting) (r : KeptRow) → IsSoundRow s r → RowFits s (row_of r)
row_fits s r sound = record {
  bits = sound.bits;
  sorts = λ guard operator columns numbered free.
      let own = sound.sorts guard operator numbered in
      subst (λ (xs : List VarId). FitTold (GuardTells s.entries s.plans guard) xs r.row) (same_free (kept_operand operator) own.0 columns own.1 free) own.2;
}

due_fits : FoundHasRisingScope → (s : SaveSetting) (state : Snapshot) (i : Instance) → AllByRecursion (λ plan. IsScopedPlan plan []) s.plans
    → CanBePending s.plans state.clock state.position i → i.high ≤ MOST_STATE_TIME
    → IsSoundInstance s i → DueFits s state.clock state.position (due_of i)
due_fits rises s state i scoped can early sound =
    let rise = scope_rises rises s.plans i.rule i.node can.node can.scope scoped can.named in
    let ordered = can.waits.ordered in
    record {
      rule_bits = sound.rule_bits;
      node_bits = sound.node_bits;
      node = can.node;
      scope = can.scope;
      named = can.named;
      sorts = subst (FitTold (RuleTells s.entries s.plans i.rule) can.scope) (sym (values_there can.scope i.valuation rise can.binds))
          (fits_scope (RuleTells s.entries s.plans i.rule) can.scope i.valuation can.binds.binds (sound.sorts can.node can.scope can.named));
      low = omega (arith, ordered, early);
      high = early;
      waits = λ j origin low high. wait_same can.node state.clock state.position i j origin low high can.waits;
    }

pub sound_keeps : FoundHasRisingScope → SoundKeepsBounds
sound_keeps rises s state scoped sound = record {
  clock = sound.clock;
  last = sound.last;
  position = sound.position;
  small = sound.small;
  kept = sound.kept;
  pending = sound.pending;
  due = sound.due;
  lines = subst (AreLinesWithin s) (sym (lines_are state)) (keep_is_within s state.clock state.last state.position (map row_of state.kept) (map due_of state.pending) true (record {
    clock = sound.clock;
    last = sound.last;
    position = sound.position;
    rows_fit = (
      each_mapped (RowFits s) row_of state.kept (λ r there. row_fits s r (sound.rows r there)),
      subst (AreWithinBounds (all_operators s.guards) state.last) (sym (rows_back state.kept)) sound.kept,
    );
    dues_fit = each_mapped (DueFits s state.clock state.position) due_of state.pending (λ i there.
        due_fits rises s state i scoped (All-contains (CanBePending s.plans state.clock state.position) state.pending i sound.pending there)
        (All-contains (λ (j : Instance). j.high ≤ MOST_STATE_TIME) state.pending i sound.due there) (sound.instances i there));
  }));
}
