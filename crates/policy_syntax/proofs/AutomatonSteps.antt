-- How the automaton goes on, step by step.
use Rattle.policy_syntax.proofs.Vocabulary.{◌≡◌, ℕ, ◌≤◌, nat_lt, Bool, true, false, ◌||◌, if◌then◌else◌, List, [], ◌∷◌, ◌++◌, Option, Some, None, Result, Ok, Err, refl, sym, ap, subst, ◌∙◌, arith}
use Rattle.policy_syntax.proofs.Vocabulary.{IfErr, IsErrAnd, err_from_is_err_and, nat_tests, ItemKind, Stack, AutomatonState, accepts, is_optional, is_over, is_wrong, stack_item, limit_place}
use Rattle.policy_syntax.proofs.Vocabulary.{names_after, nodes_after, offer, settle, skips, automaton_step, then_judged, Bars, ReadsPart, judge_from, next_lexeme_of, next_place_of, PolicyLexeme}
use Rattle.policy_syntax.proofs.Vocabulary.{PlacedLexeme, next_lexeme, is_end_lexeme, next_place, IsLexemeTaken, MOST_LEVEL, MOST_VARIABLES, Parts, SyntaxRefusal, Syntax, Limit, NoMemory}
use Rattle.policy_syntax.specs.machine.Automaton.{judge}
use Rattle.policy_syntax.specs.machine.PartOutcomes.{Continues, RefusesFrom}
use Rattle.policy_syntax.proofs.JudgedLexemes.{judge_takes, judge_limits, judge_refuses, judge_sticks, judge_ends}

-- ---- what follows what

pub begins : (from : Stack) (s : Parts) → Continues from from s s
unfolding Continues
begins from s names below = refl

pub after : (from mid to : Stack) (s0 s1 s2 : Parts) → Continues from mid s0 s1 → Continues mid to s1 s2 → Continues from to s0 s2
unfolding Continues
after from mid to s0 s1 s2 f g names below = f names below ∙ g names below

pub refused_after : (from mid : Stack) (s0 s1 : Parts) (refusal : SyntaxRefusal) → Continues from mid s0 s1 → RefusesFrom mid s1 refusal → RefusesFrom from s0 refusal
unfolding Continues RefusesFrom
refused_after from mid s0 s1 refusal f g some names below = f names below ∙ g some names below

append_more : (xs ys zs : Stack) → (xs ++ ys) ++ zs ≡ xs ++ (ys ++ zs)
append_more [] ys zs = refl
append_more (x ∷ xs) ys zs = ap (λ (rest : Stack). x ∷ rest) (append_more xs ys zs)

pub over : (below from to : Stack) (s0 s1 : Parts) → Continues from to s0 s1 → Continues (from ++ below) (to ++ below) s0 s1
unfolding Continues
over below from to s0 s1 f names more =
    ap (λ (stack : Stack). judge_from names stack s0) (append_more from below more) ∙ f names (below ++ more) ∙ ap (λ (stack : Stack). judge_from names stack s1) (sym (append_more to below more))

pub refused_over : (below from : Stack) (s0 : Parts) (refusal : SyntaxRefusal) → RefusesFrom from s0 refusal → RefusesFrom (from ++ below) s0 refusal
unfolding RefusesFrom
refused_over below from s0 refusal f some names more =
    ap (λ (stack : Stack). judge_from names stack s0) (append_more from below more) ∙ f some names (below ++ more)

-- one part after the other
pub and_then : (part next below from : Stack) (s0 s1 s2 : Parts) → Continues part next s1 s2 → Continues from (part ++ below) s0 s1 → Continues from (next ++ below) s0 s2
and_then part next below from s0 s1 s2 g f = after from (part ++ below) (next ++ below) s0 s1 s2 f (over below part next s1 s2 g)

pub refused_then : (part below from : Stack) (s0 s1 : Parts) (refusal : SyntaxRefusal) → RefusesFrom part s1 refusal → Continues from (part ++ below) s0 s1 → RefusesFrom from s0 refusal
refused_then part below from s0 s1 refusal g f = refused_after from (part ++ below) s0 s1 refusal f (refused_over below part s1 refusal g)

-- ---- at the exit of a `?`

pub follows_err : {A : Type 0} (from to : Stack) (s0 s1 : Parts) (r : Result A SyntaxRefusal) (refusal : SyntaxRefusal) → IsErrAnd r (λ y. y ≡ refusal) → RefusesFrom from s0 refusal
    → ReadsPart from to s0 s1 r
follows_err {A = A} from to s0 s1 r refusal is refused =
    let p = err_from_is_err_and r is in
    subst (λ (x : Result A SyntaxRefusal). ReadsPart from to s0 s1 x) (sym p.1) (subst (λ (y : SyntaxRefusal). RefusesFrom from s0 y) (sym p.2) refused)

pub follows_no_memory : {A : Type 0} (from to : Stack) (s0 s1 : Parts) (r : Result A SyntaxRefusal) → IsErrAnd r (λ y. y ≡ NoMemory) → ReadsPart from to s0 s1 r
unfolding RefusesFrom
follows_no_memory from to s0 s1 r is = follows_err from to s0 s1 r NoMemory is (λ some names below. absurd (some refl))

pub bars_err : {A : Type 0} (found : Option SyntaxRefusal) (r : Result A SyntaxRefusal) (refusal : SyntaxRefusal) → IsErrAnd r (λ y. y ≡ refusal) → Bars found refusal → IfErr r (Bars found)
bars_err {A = A} found r refusal is bars =
    let p = err_from_is_err_and r is in
    subst (λ (x : Result A SyntaxRefusal). IfErr x (Bars found)) (sym p.1) (subst (λ (y : SyntaxRefusal). Bars found y) (sym p.2) bars)

-- ---- a lexeme begins an item

-- it does, after some nodes; at a place it leaves this to come. Only its level, its scope and this test pass a limit
pub record IsMove (kind : ItemKind) (lexeme : PolicyLexeme) (level scope : ℕ) (passes : (nodes : ℕ) → Bool) (counted : (nodes : ℕ) → ℕ) (left : (place : ℕ) → Stack) : Type 0 where
  pub stands : is_end_lexeme lexeme ≡ false
  pub kept : skips kind lexeme ≡ false
  pub offers : (place : ℕ) → offer kind level scope place lexeme ≡ Some (left place)
  pub right : (names : List (List ℕ)) → is_wrong kind names lexeme ≡ false
  pub limits : (nodes : ℕ) (names : List (List ℕ)) → is_over kind level scope nodes names lexeme ≡ (nat_lt MOST_LEVEL level || nat_lt MOST_VARIABLES scope || passes nodes)
  pub at : (place : ℕ) → limit_place kind place lexeme ≡ place
  pub counts : (nodes : ℕ) → nodes_after kind nodes lexeme ≡ counted nodes
  pub named : (names : List (List ℕ)) → names_after kind names lexeme ≡ names

within : (level scope : ℕ) (b : Bool) → level ≤ MOST_LEVEL → scope ≤ MOST_VARIABLES → b ≡ false → (nat_lt MOST_LEVEL level || nat_lt MOST_VARIABLES scope || b) ≡ false
within level scope b low few e =
    let f : nat_lt MOST_LEVEL level ≡ false = grind (arith, nat_tests) in
    let g : nat_lt MOST_VARIABLES scope ≡ false = grind (arith, nat_tests) in
    (λ j. f j || g j || e j)

pub moves : (kind : ItemKind) (lexeme : PolicyLexeme) (level scope place : ℕ) (passes : ℕ → Bool) (counted : ℕ → ℕ) (left : ℕ → Stack) (old new : Parts)
    → IsMove kind lexeme level scope passes counted left → IsLexemeTaken level lexeme place old.cursor new.cursor → scope ≤ MOST_VARIABLES → passes old.nodes ≡ false → new.nodes ≡ counted old.nodes
    → Continues (stack_item kind level scope ∷ []) (left place) old new
unfolding Continues
moves kind lexeme level scope place passes counted left old new m t few fine same names below =
    let over = m.limits old.nodes names ∙ within level scope (passes old.nodes) t.low few fine in
    ap (λ rest. judge old.cursor.end (stack_item kind level scope ∷ below) old.nodes names rest) t.was
    ∙ judge_takes old.cursor.end level scope old.nodes place kind below (left place) names lexeme new.cursor.rest m.kept (m.offers place) (m.right names) over
    ∙ (λ j. judge (t.same_end j) (left place ++ below) ((m.counts old.nodes ∙ sym same) j) (m.named names j) new.cursor.rest)

-- it passes a limit
stopped : (end level scope nodes : ℕ) (kind : ItemKind) (rest : List PlacedLexeme) (below : Stack) (names : List (List ℕ)) (passes : ℕ → Bool) (counted : ℕ → ℕ) (left : ℕ → Stack)
    → IsMove kind (next_lexeme rest) level scope passes counted left → (nat_lt MOST_LEVEL level || nat_lt MOST_VARIABLES scope || passes nodes) ≡ true
    → judge end (stack_item kind level scope ∷ below) nodes names rest ≡ Some (Limit (next_place end rest))
stopped end level scope nodes kind [] below names passes counted left m past = cc (m.stands)
stopped end level scope nodes kind (placed ∷ rest) below names passes counted left m past =
    judge_limits end level scope nodes placed.0 kind below (left placed.0) names placed.1 rest m.kept (m.offers placed.0) (m.right names) (m.limits nodes names ∙ past) ∙ ap
    (λ p. Some (Limit p)) (m.at placed.0)

pub stops : (kind : ItemKind) (lexeme : PolicyLexeme) (level scope : ℕ) (passes : ℕ → Bool) (counted : ℕ → ℕ) (left : ℕ → Stack) (old : Parts)
    → IsMove kind lexeme level scope passes counted left → next_lexeme_of old ≡ lexeme → (nat_lt MOST_LEVEL level || nat_lt MOST_VARIABLES scope || passes old.nodes) ≡ true
    → RefusesFrom (stack_item kind level scope ∷ []) old (Limit (next_place_of old))
unfolding RefusesFrom
stops kind lexeme level scope passes counted left old m is past some names below =
    stopped old.cursor.end level scope old.nodes kind old.cursor.rest below names passes counted left (subst (λ (x : PolicyLexeme). IsMove kind x level scope passes counted left) (sym is) m) past

-- it is a name that was used before, or an end below the first
wrong : (end level scope nodes : ℕ) (kind : ItemKind) (left : Stack) (rest : List PlacedLexeme) (below : Stack) (names : List (List ℕ)) → is_optional kind ≡ false
    → skips kind (next_lexeme rest) ≡ false
    → is_end_lexeme (next_lexeme rest) ≡ false → ((place : ℕ) → offer kind level scope place (next_lexeme rest) ≡ Some left) → is_wrong kind names (next_lexeme rest) ≡ true
    → judge end (stack_item kind level scope ∷ below) nodes names rest ≡ Some (Syntax (next_place end rest))
wrong end level scope nodes kind left [] below names wanted kept stands offers is = cc
wrong end level scope nodes kind left (placed ∷ rest) below names wanted kept stands offers is = judge_refuses end level scope nodes placed.0 kind below left names placed.1 rest kept
    (offers placed.0) is

pub wrongs : (kind : ItemKind) (lexeme : PolicyLexeme) (level scope : ℕ) (left : Stack) (old : Parts) → is_optional kind ≡ false → (skips kind lexeme ≡ false)
    → ((place : ℕ) → offer kind level scope place lexeme ≡ Some left)
    → ((names : List (List ℕ)) → is_wrong kind names lexeme ≡ true) → next_lexeme_of old ≡ lexeme → is_end_lexeme lexeme ≡ false
    → RefusesFrom (stack_item kind level scope ∷ []) old (Syntax (next_place_of old))
unfolding RefusesFrom
wrongs kind lexeme level scope left old wanted kept offers is at stands some names below =
    let facts = subst (λ (x : PolicyLexeme). (skips kind x ≡ false) × (is_end_lexeme x ≡ false) × ((place : ℕ) → offer kind level scope place x ≡ Some left)
    × (is_wrong kind names x ≡ true)) (sym at) (kept, stands, offers, is names) in
    wrong old.cursor.end level scope old.nodes kind left old.cursor.rest below names wanted facts.0 facts.1 facts.2 facts.3

-- it does not
stuck : (end level scope nodes : ℕ) (kind : ItemKind) (rest : List PlacedLexeme) (below : Stack) (names : List (List ℕ)) → is_optional kind ≡ false → skips kind (next_lexeme rest) ≡ false
    → ((place : ℕ) → offer kind level scope place (next_lexeme rest) ≡ None) → judge end (stack_item kind level scope ∷ below) nodes names rest ≡ Some (Syntax (next_place end rest))
stuck end level scope nodes kind [] below names wanted kept none = judge_ends end level scope nodes kind below names wanted
stuck end level scope nodes kind (placed ∷ rest) below names wanted kept none = judge_sticks end level scope nodes placed.0 kind below names placed.1 rest kept (none placed.0)

pub sticks : (kind : ItemKind) (level scope : ℕ) (old : Parts) → is_optional kind ≡ false → ((lexeme : PolicyLexeme) → skips kind lexeme ≡ false)
    → ((place : ℕ) → offer kind level scope place (next_lexeme_of old) ≡ None)
    → RefusesFrom (stack_item kind level scope ∷ []) old (Syntax (next_place_of old))
unfolding RefusesFrom
sticks kind level scope old wanted kept none some names below = stuck old.cursor.end level scope old.nodes kind old.cursor.rest below names wanted (kept (next_lexeme_of old)) none

-- ---- one part stands for another before the same lexeme

stands_as : (end nodes : ℕ) (rest : List PlacedLexeme) (names : List (List ℕ)) (stack other : Stack) → accepts stack ≡ accepts other
    → ((place : ℕ) → automaton_step (settle (next_lexeme rest) stack) nodes names place (next_lexeme rest) ≡ automaton_step (settle (next_lexeme rest) other) nodes names place (next_lexeme rest))
    → judge end stack nodes names rest ≡ judge end other nodes names rest
unfolding judge
stands_as end nodes [] names stack other ends e = ap (λ (b : Bool). if b then None else Some (Syntax end)) ends
stands_as end nodes (placed ∷ rest) names stack other ends e = ap (then_judged (λ (s : AutomatonState). judge end s.stack s.nodes s.names rest)) (e placed.0)

pub goes_as : (from to : Stack) (s : Parts) → ((below : Stack) → accepts (from ++ below) ≡ accepts (to ++ below))
    → ((names : List (List ℕ)) (below : Stack) (place : ℕ) → automaton_step (settle (next_lexeme_of s) (from ++ below)) s.nodes names place (next_lexeme_of s)
    ≡ automaton_step (settle (next_lexeme_of s) (to ++ below)) s.nodes names place (next_lexeme_of s))
    → Continues from to s s
unfolding Continues
goes_as from to s ends e names below = stands_as s.cursor.end s.nodes s.cursor.rest names (from ++ below) (to ++ below) (ends below) (e names below)

pub follows_after : {A : Type 0} (from mid to : Stack) (s0 s1 s2 : Parts) (r : Result A SyntaxRefusal) → Continues from mid s0 s1 → ReadsPart mid to s1 s2 r → ReadsPart from to s0 s2 r
follows_after from mid to s0 s1 s2 (Ok a) f g = after from mid to s0 s1 s2 f g
follows_after from mid to s0 s1 s2 (Err e) f g = refused_after from mid s0 s1 e f g

pub refused_err : {A : Type 0} (from : Stack) (s : Parts) (r : Result A SyntaxRefusal) (refusal : SyntaxRefusal) → IsErrAnd r (λ y. y ≡ refusal) → RefusesFrom from s refusal
    → IfErr r (RefusesFrom from s)
refused_err {A = A} from s r refusal is refused =
    let p = err_from_is_err_and r is in
    subst (λ (x : Result A SyntaxRefusal). IfErr x (RefusesFrom from s)) (sym p.1) (subst (λ (y : SyntaxRefusal). RefusesFrom from s y) (sym p.2) refused)
