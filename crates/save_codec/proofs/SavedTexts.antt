-- What is saved is a text of the grammar, and that of one state.
use Rattle.save_codec.proofs.Vocabulary.{◌≡◌, ◌++◌, ◌∷◌, [], ℕ, List, Option, Some, None, IsSome, IsTrue, All, Contains, length, map, refl, sym, ap, ◌∙◌, arith, append_assoc, ⊎_elim, AllByRecursion}
use Rattle.save_codec.proofs.Vocabulary.{IsStrictlySortedBy, All-head, All-tail, recursion_from_All, same_Some, Valuation, bindings, no_values, value_at, variable_cmp, BindsColumns, same_valuation}
use Rattle.save_codec.proofs.Vocabulary.{IsValue, OneTokenAtPlace, PrintedIsToken, VarId, Value, Sort, among_or_not, first_or_later, here, later, none_in_nil, cell_here, cell_later, filled_outside}
use Rattle.save_codec.proofs.Vocabulary.{filled_unbound, same_or_other, filled_from_row, row_cell, Plan, FoundHasRisingScope, IsScopedPlan, FitsScope, future_in, KeptRow, CanBePending, Instance}
use Rattle.save_codec.proofs.Vocabulary.{LinesFollow, is_end_line, last_line, IsLine, IsSmallNumber, due_line, lines_of, row_line, values_in, OneState, SavedIsText, HasSmallNumbers, IsStoredInstance}
use Rattle.save_codec.proofs.Vocabulary.{IsStoredRow, FitTold, FitsTold, Line, Position, End, Snapshot}
use Rattle.save_codec.proofs.BoundLemmas.{bound_values, nothing_at}
use Rattle.save_codec.proofs.FormLemmas.{last_line_behind}
use Rattle.save_codec.proofs.InstanceLemmas.{scope_rises}
use Rattle.save_codec.proofs.OneText.{one_text}

-- ---- the lines of a state are those of a text

abbrev due_end : List Instance → List Line
due_end pending = map due_line pending ++ End ∷ []

behind_due : (i : Instance) (pending : List Instance) → AllByRecursion IsLine (due_end pending) → LinesFollow (Some (due_line i)) (due_end pending)
behind_due i [] lines = (refl, lines.0, tt)
behind_due i (j ∷ pending) lines = (refl, lines.0, behind_due j pending lines.1)

behind_row : (r : KeptRow) (rows : List KeptRow) (pending : List Instance) → AllByRecursion IsLine (map row_line rows ++ due_end pending)
    → LinesFollow (Some (row_line r)) (map row_line rows ++ due_end pending)
behind_row r [] [] lines = (refl, lines.0, tt)
behind_row r [] (j ∷ pending) lines = (refl, lines.0, behind_due j pending lines.1)
behind_row r (q ∷ rows) pending lines = (refl, lines.0, behind_row q rows pending lines.1)

behind_number : (position : ℕ) (rows : List KeptRow) (pending : List Instance) → AllByRecursion IsLine (map row_line rows ++ due_end pending)
    → LinesFollow (Some (Position position)) (map row_line rows ++ due_end pending)
behind_number position [] [] lines = (refl, lines.0, tt)
behind_number position [] (j ∷ pending) lines = (refl, lines.0, behind_due j pending lines.1)
behind_number position (q ∷ rows) pending lines = (refl, lines.0, behind_row q rows pending lines.1)

ends : (before : Option Line) (rows : List KeptRow) (pending : List Instance) → IsTrue (is_end_line (last_line before (map row_line rows ++ due_end pending)))
ends before rows pending =
    ap (λ lines. is_end_line (last_line before lines)) (sym (append_assoc (map row_line rows) (map due_line pending) (End ∷ [])))
    ∙ ap is_end_line (last_line_behind before (map row_line rows ++ map due_line pending) End)

pub saved_is_text : SavedIsText
saved_is_text signature policy s lines = record {
  form = (
    (refl, lines.0, (refl, lines.1.0, (refl, lines.1.1.0, behind_number s.position s.kept s.pending lines.1.1.1))),
    ends (Some (Position s.position)) s.kept s.pending,
  );
  text = refl;
}

-- ---- so are those of a state in memory

values_are : (values : List (VarId × Value)) → All (λ b. IsValue b.1) values → AllByRecursion IsValue (map (λ b. b.1) values)
values_are [] all = tt
values_are (b ∷ values) all = (All-head (λ b. IsValue b.1) b values all, values_are values (All-tail (λ b. IsValue b.1) b values all))

dues_are : (pending : List Instance) → All (λ i. IsSmallNumber i.origin × IsSmallNumber i.low × IsSmallNumber i.high) pending → All IsStoredInstance pending → AllByRecursion IsLine (due_end pending)
dues_are [] small are = (tt, tt)
dues_are (i ∷ pending) small are =
    let n = All-head (λ i. IsSmallNumber i.origin × IsSmallNumber i.low × IsSmallNumber i.high) i pending small in
    let a = All-head IsStoredInstance i pending are in (
      (omega (arith, a.0), omega (arith, a.1), n.0, n.1, n.2, values_are (bindings i.valuation) a.2),
      dues_are pending (All-tail (λ i. IsSmallNumber i.origin × IsSmallNumber i.low × IsSmallNumber i.high) i pending small) (All-tail IsStoredInstance i pending are),
    )

rows_are : (rows : List KeptRow) (pending : List Instance) → All (λ r. IsSmallNumber r.time) rows → All IsStoredRow rows → AllByRecursion IsLine (due_end pending)
    → AllByRecursion IsLine (map row_line rows ++ due_end pending)
rows_are [] pending small are dues = dues
rows_are (r ∷ rows) pending small are dues =
    let a = All-head IsStoredRow r rows are in (
      (omega (arith, a.0), All-head (λ r. IsSmallNumber r.time) r rows small, recursion_from_All IsValue r.row a.1),
      rows_are rows pending (All-tail (λ r. IsSmallNumber r.time) r rows small) (All-tail IsStoredRow r rows are) dues,
    )

pub lines_are : (s : Snapshot) → HasSmallNumbers s → All IsStoredRow s.kept → All IsStoredInstance s.pending → AllByRecursion IsLine (lines_of s)
lines_are s small rows dues = (small.clock, (small.last, (small.position, rows_are s.kept s.pending small.times rows (dues_are s.pending small.windows dues))))

-- ---- what is bound is bound to its values

-- values in the order of the scope
pub record AreValuesOf (scope : List VarId) (v : Valuation) : Type 0 where
  pub values : List Value
  long : length scope ≡ length values
  are : (x : VarId) → Contains scope x → value_at v x ≡ row_cell scope values x

has_value : (o : Option Value) → IsSome o → (value : Value) × (o ≡ Some value)
has_value None some = absurd cc
has_value (Some value) some = (value, refl)

pub values_of_scope : (scope : List VarId) (v : Valuation) → BindsColumns v scope → AreValuesOf scope v
values_of_scope [] v binds = record { values = []; long = refl; are = λ x there. absurd (none_in_nil x there) }
values_of_scope (y ∷ scope) v binds =
    let first = has_value (value_at v y) (binds y (here y scope)) in
    let rest = values_of_scope scope v (λ x there. binds x (later x y scope there)) in
    record {
      values = first.0 ∷ rest.values;
      long = omega (arith, rest.long);
      are = λ x there. ⊎_elim
          (λ same. ap (value_at v) (sym same) ∙ first.1 ∙ sym (cell_here y x scope first.0 rest.values same))
          (λ other. rest.are x (⊎_elim (λ same. absurd (other same)) (λ behind. behind) (first_or_later x y scope there)) ∙ sym (cell_later y x scope first.0 rest.values other))
          (same_or_other y x);
    }

-- they are what is bound, in rising number
filled_by : (scope : List VarId) (v : Valuation) (fits : FitsScope scope v) → v ≡ filled_from_row no_values scope (values_of_scope scope v fits.binds).values
filled_by scope v fits =
    let of = values_of_scope scope v fits.binds in
    same_valuation v (filled_from_row no_values scope of.values) (λ x. ⊎_elim
    (λ there. of.are x there ∙ sym (filled_unbound no_values scope of.values x (nothing_at x)))
    (λ absent. fits.only x absent ∙ sym (filled_outside no_values scope of.values x absent ∙ nothing_at x))
    (among_or_not scope x))

pub values_there : (scope : List VarId) (v : Valuation) → IsStrictlySortedBy variable_cmp scope → (fits : FitsScope scope v) → values_in v ≡ (values_of_scope scope v fits.binds).values
values_there scope v rise fits =
    let of = values_of_scope scope v fits.binds in ap values_in (filled_by scope v fits) ∙ bound_values scope of.values rise of.long

bound_is : (scope : List VarId) (v : Valuation) → IsStrictlySortedBy variable_cmp scope → FitsScope scope v → v ≡ filled_from_row no_values scope (values_in v)
bound_is scope v rise fits = filled_by scope v fits ∙ ap (filled_from_row no_values scope) (sym (values_there scope v rise fits))

-- and fit what is told, where each that is bound does
pub fits_scope : (tells : VarId → Sort → Type 0) (scope : List VarId) (v : Valuation) (binds : BindsColumns v scope)
    → ((x : VarId) (value : Value) → Contains scope x → value_at v x ≡ Some value → FitsTold tells x value)
    → FitTold tells scope (values_of_scope scope v binds).values
unfolding values_of_scope
fits_scope tells [] v binds each = tt
fits_scope tells (y ∷ scope) v binds each =
    let first = has_value (value_at v y) (binds y (here y scope)) in
    (each y first.0 (here y scope) first.1, fits_scope tells scope v (λ x there. binds x (later x y scope there)) (λ x value there. each x value (later x y scope there)))

-- ---- one state

same_rows : (rows others : List KeptRow) (pending more : List Instance) → map row_line rows ++ due_end pending ≡ map row_line others ++ due_end more → (rows ≡ others)
    × (due_end pending ≡ due_end more)
same_rows [] [] pending more e = (refl, e)
same_rows [] (o ∷ others) [] more e = absurd cc
same_rows [] (o ∷ others) (i ∷ pending) more e = absurd cc
same_rows (r ∷ rows) [] pending [] e = absurd cc
same_rows (r ∷ rows) [] pending (j ∷ more) e = absurd cc
same_rows (r ∷ rows) (o ∷ others) pending more e =
    let first : row_line r ≡ row_line o = cc e in
    let window : r.window ≡ o.window = cc first in
    let time : r.time ≡ o.time = cc first in
    let row : r.row ≡ o.row = cc first in
    let behind : map row_line rows ++ due_end pending ≡ map row_line others ++ due_end more = cc e in
    let rest = same_rows rows others pending more behind in
    let same : r ≡ o = λ k. record { window = window k; row = row k; time = time k } in
    (λ k. same k ∷ rest.0 k, rest.1)

abbrev Can : List Plan → (clock position : ℕ) → List Instance → Type 0
Can plans clock position pending = AllByRecursion (CanBePending plans clock position) pending

same_scope : (plans : List Plan) (r n r' n' : ℕ) (a b : Plan × List VarId) → future_in plans r n ≡ Some a → future_in plans r' n' ≡ Some b → r ≡ r' → n ≡ n' → a.1 ≡ b.1
same_scope plans r n r' n' a b found other rule node =
    let place : future_in plans r n ≡ future_in plans r' n' = λ k. future_in plans (rule k) (node k) in
    let both : Some a ≡ Some b = sym found ∙ place ∙ other in
    ap (λ (m : Plan × List VarId). m.1) (same_Some a b both)

same_instance : FoundHasRisingScope → (plans : List Plan) (c p c' p' : ℕ) (i j : Instance) → AllByRecursion (λ plan. IsScopedPlan plan []) plans → CanBePending plans c p i
    → CanBePending plans c' p' j → due_line i ≡ due_line j → i ≡ j
same_instance rises plans c p c' p' i j each a b e =
    let rule : i.rule ≡ j.rule = cc e in
    let node : i.node ≡ j.node = cc e in
    let origin : i.origin ≡ j.origin = cc e in
    let low : i.low ≡ j.low = cc e in
    let high : i.high ≡ j.high = cc e in
    let values : values_in i.valuation ≡ values_in j.valuation = cc e in
    let scope : a.scope ≡ b.scope = same_scope plans i.rule i.node j.rule j.node (a.node, a.scope) (b.node, b.scope) a.named b.named rule node in
    let left = bound_is a.scope i.valuation (scope_rises rises plans i.rule i.node a.node a.scope each a.named) a.binds in
    let right = bound_is b.scope j.valuation (scope_rises rises plans j.rule j.node b.node b.scope each b.named) b.binds in
    let filling : filled_from_row no_values a.scope (values_in i.valuation) ≡ filled_from_row no_values b.scope (values_in j.valuation) = λ k. filled_from_row no_values (scope k) (values k) in
    let valuation : i.valuation ≡ j.valuation = left ∙ filling ∙ sym right in
    λ k. record { rule = rule k; node = node k; valuation = valuation k; origin = origin k; low = low k; high = high k }

same_dues : FoundHasRisingScope → (plans : List Plan) (c p c' p' : ℕ) (pending more : List Instance) → AllByRecursion (λ plan. IsScopedPlan plan []) plans → Can plans c p pending
    → Can plans c' p' more → due_end pending ≡ due_end more → pending ≡ more
same_dues rises plans c p c' p' [] [] each a b e = refl
same_dues rises plans c p c' p' [] (j ∷ more) each a b e = absurd cc
same_dues rises plans c p c' p' (i ∷ pending) [] each a b e = absurd cc
same_dues rises plans c p c' p' (i ∷ pending) (j ∷ more) each a b e =
    let first : due_line i ≡ due_line j = cc e in
    let behind : due_end pending ≡ due_end more = cc e in
    let same = same_instance rises plans c p c' p' i j each a.0 b.0 first in
    let rest = same_dues rises plans c p c' p' pending more each a.1 b.1 behind in
    λ k. same k ∷ rest k

pub one_state : PrintedIsToken → OneTokenAtPlace → FoundHasRisingScope → OneState
one_state printed one rises bytes signature policy plans x y small each left right a b =
    let e : lines_of x ≡ lines_of y = (one_text printed one bytes signature policy signature policy (lines_of x) (lines_of y) small left right).2 in
    let clock : x.clock ≡ y.clock = cc e in
    let last : x.last ≡ y.last = cc e in
    let position : x.position ≡ y.position = cc e in
    let behind : map row_line x.kept ++ due_end x.pending ≡ map row_line y.kept ++ due_end y.pending = cc e in
    let rows = same_rows x.kept y.kept x.pending y.pending behind in
    let pending = same_dues rises plans x.clock x.position y.clock y.position x.pending y.pending each
    (recursion_from_All (CanBePending plans x.clock x.position) x.pending a) (recursion_from_All (CanBePending plans y.clock y.position) y.pending b) rows.1 in
    λ k. record { clock = clock k; last = last k; position = position k; kept = rows.0 k; pending = pending k }
