-- What the names that no guard looks for change: nothing of the guards, and nothing of the tables.
use Rattle.past_state.proofs.Vocabulary.{List, [], ◌∷◌, ◌++◌, All, Contains, Option, None, Some, length, refl, sym, subst, arith, All-append, All-nil, All-cons, Contains-append_left}
use Rattle.past_state.proofs.Vocabulary.{Contains-append_right, Valuation, values_of_terms, with_values, Event, NameId, Step, Value, Formula, True, False, Atom, Equal, Less, AtMost, Not, And, Or}
use Rattle.past_state.proofs.Vocabulary.{Implies, Exists, Forall, Prev, Next, Once, Historically, Since, Eventually, Always, Until, IsEventAmong, NamesDecide, HaveSameEvents, names_in_formula}
use Rattle.past_state.proofs.Vocabulary.{HoldsNow, tables_beyond, Relation, names_in_all, operators, all_operators, UnreadGuardsHold, UnreadTablesStay, formulas_of_guards, guard_formula, guard_names}
use Rattle.past_state.proofs.Vocabulary.{past_names, tables_of, PlacedGuard}
use Rattle.past_state.proofs.GuardLaws.{looks_at}
use Rattle.past_state.proofs.PastLemmas.{tables_stay}
use Rattle.past_state.proofs.SameNames.{Within, names_within, same_with}

-- ---- the names of the guards

-- the names of operators on the past are among those of the formulas
module _ (names : List NameId) where
  left : (xs ys : List NameId) → ((name : NameId) → Contains (xs ++ ys) name → Contains names name)
      → (name : NameId) → Contains xs name → Contains names name
  left xs ys within name there = within name (Contains-append_left xs ys name there)

  right : (xs ys : List NameId) → ((name : NameId) → Contains (xs ++ ys) name → Contains names name)
      → (name : NameId) → Contains ys name → Contains names name
  right xs ys within name there = within name (Contains-append_right xs ys name there)

  own : (f : Formula) → Within names f → All (Within names) (operators f)
  own (True place) within = All-nil (Within names)
  own (False place) within = All-nil (Within names)
  own (Atom place name terms) within = All-nil (Within names)
  own (Equal place s t) within = All-nil (Within names)
  own (Less place s t) within = All-nil (Within names)
  own (AtMost place s t) within = All-nil (Within names)
  own (Not place g) within = own g within
  own (And place g h) within =
      All-append (Within names) (operators g) (operators h) (own g (left (names_in_formula g) (names_in_formula h) within)) (own h (right (names_in_formula g) (names_in_formula h) within))
  own (Or place g h) within =
      All-append (Within names) (operators g) (operators h) (own g (left (names_in_formula g) (names_in_formula h) within)) (own h (right (names_in_formula g) (names_in_formula h) within))
  own (Implies place g h) within =
      All-append (Within names) (operators g) (operators h) (own g (left (names_in_formula g) (names_in_formula h) within)) (own h (right (names_in_formula g) (names_in_formula h) within))
  own (Exists place xs g) within = own g within
  own (Forall place xs g) within = own g within
  own (Prev place interval g) within = All-cons (Within names) (Prev place interval g) (operators g) within (own g within)
  own (Once place interval g) within = All-cons (Within names) (Once place interval g) (operators g) within (own g within)
  own (Historically place interval g) within = All-cons (Within names) (Historically place interval g) (operators g) within (own g within)
  own (Since place interval g h) within =
      All-cons (Within names) (Since place interval g h) (operators g ++ operators h) within
      (All-append (Within names) (operators g) (operators h) (own g (left (names_in_formula g) (names_in_formula h) within)) (own h (right (names_in_formula g) (names_in_formula h) within)))
  own (Next place interval g) within = All-nil (Within names)
  own (Eventually place interval g) within = All-nil (Within names)
  own (Always place interval g) within = All-nil (Within names)
  own (Until place interval g h) within = All-nil (Within names)

  all_own : (fs : List Formula) → ((name : NameId) → Contains (names_in_all fs) name → Contains names name)
      → All (Within names) (all_operators fs)
  all_own [] within = All-nil (Within names)
  all_own (f ∷ fs) within =
      All-append (Within names) (operators f) (all_operators fs) (own f (left (names_in_formula f) (names_in_all fs) within)) (all_own fs (right (names_in_formula f) (names_in_all fs) within))

past_within : (guards : List PlacedGuard) (name : NameId) → Contains (past_names guards) name → Contains (guard_names guards) name
past_within guards = names_within (guard_names guards) (all_operators (formulas_of_guards guards))
    (all_own (guard_names guards) (formulas_of_guards guards) (λ name there. there))

pub unread_tables_stay : UnreadTablesStay
unread_tables_stay past time events others tables same are =
    tables_stay past time events others tables (λ event named. same event (past_within past.guards event.name named)) are

-- ---- what holds by tables

both : (xs ys : List NameId) (events others : List Event) → HaveSameEvents (xs ++ ys) events others
    → HaveSameEvents xs events others × HaveSameEvents ys events others
both xs ys events others same = (
  λ event named. same event (Contains-append_left xs ys event.name named),
  λ event named. same event (Contains-append_right xs ys event.name named),
)

among : (events others : List Event) (name : NameId) (args : Option (List Value)) → HaveSameEvents (name ∷ []) events others
    → IsEventAmong events name args → IsEventAmong others name args
among events others name None same there = there
among events others name (Some args) same there = (same (record { name = name; args = args }) (0, omega arith, refl)).0 there

turn : (names : List NameId) (events others : List Event) → HaveSameEvents names events others → HaveSameEvents names others events
turn names events others same event named = ((same event named).1, (same event named).0)

pub still_holds : (f : Formula) (events others : List Event) (tables : List Relation) (v : Valuation)
    → HaveSameEvents (names_in_formula f) events others → HoldsNow events tables v f → HoldsNow others tables v f
still_holds (True place) events others tables v same holds = holds
still_holds (False place) events others tables v same holds = holds
still_holds (Atom place name terms) events others tables v same holds = among events others name (values_of_terms v terms) same holds
still_holds (Equal place s t) events others tables v same holds = holds
still_holds (Less place s t) events others tables v same holds = holds
still_holds (AtMost place s t) events others tables v same holds = holds
still_holds (Not place g) events others tables v same holds =
    λ does. holds (still_holds g others events tables v (turn (names_in_formula g) events others same) does)
still_holds (And place g h) events others tables v same holds =
    let each = both (names_in_formula g) (names_in_formula h) events others same in
    (still_holds g events others tables v each.0 holds.0, still_holds h events others (tables_beyond g tables) v each.1 holds.1)
still_holds (Or place g h) events others tables v same holds =
    let each = both (names_in_formula g) (names_in_formula h) events others same in
    λ not_left not_right. holds (λ does. not_left (still_holds g events others tables v each.0 does))
    (λ does. not_right (still_holds h events others (tables_beyond g tables) v each.1 does))
still_holds (Implies place g h) events others tables v same holds =
    let each = both (names_in_formula g) (names_in_formula h) events others same in
    λ does. still_holds h events others (tables_beyond g tables) v each.1
    (holds (still_holds g others events tables v (turn (names_in_formula g) events others each.0) does))
still_holds (Exists place xs g) events others tables v same holds =
    λ none. holds (λ some. none (some.0, some.1, still_holds g events others tables (with_values xs some.0 v) same some.2))
still_holds (Forall place xs g) events others tables v same holds =
    λ values long. still_holds g events others tables (with_values xs values v) same (holds values long)
still_holds (Prev place interval g) events others tables v same holds = holds
still_holds (Once place interval g) events others tables v same holds = holds
still_holds (Historically place interval g) events others tables v same holds = holds
still_holds (Since place interval g h) events others tables v same holds = holds
still_holds (Next place interval g) events others tables v same holds = holds
still_holds (Eventually place interval g) events others tables v same holds = holds
still_holds (Always place interval g) events others tables v same holds = holds
still_holds (Until place interval g h) events others tables v same holds = holds

pub unread_guards_hold : NamesDecide → UnreadGuardsHold
unread_guards_hold decide past time events others tables same hold trace step at are later stands number g is v binds =
    let f = guard_formula g in
    let before : Step = record { time = time; events = events } in
    let alike : HaveSameEvents (names_in_formula f) events others = λ event named. same event (looks_at tables.guards number g event.name is named) in
    let told = hold trace before refl refl later stands number g is v binds in
    let meant = decide (trace ++ before ∷ []) (trace ++ step ∷ []) (length trace) v f
    (same_with (names_in_formula f) trace before step (sym at) (subst (λ l. HaveSameEvents (names_in_formula f) events l) (sym are) alike)) in (
      λ does. meant.0 (told.0 (still_holds f others events (tables_of g tables) v (turn (names_in_formula f) events others alike) does)),
      λ does. still_holds f events others (tables_of g tables) v alike (told.1 (meant.1 does)),
    )
