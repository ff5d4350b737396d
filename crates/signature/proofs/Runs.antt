-- Runs of the reader without its limits: the tokens of entries lead to those entries, and to no others.
use Rattle.signature.proofs.Vocabulary.{◌≡◌, ℕ, ◌<◌, Bool, true, false, cond, List, [], ◌∷◌, ◌++◌, length, Option, None, Some, refl, sym, ap, ◌∙◌, arith, append_assoc, AllByRecursion, flat_map}
use Rattle.signature.proofs.Vocabulary.{option_and_then, IsTrue, append-nil, recursion_from_All, is_name, Token, WordToken, SymbolToken, NameEntry, Sort, Int, Text, Part, AreNamed, entry_tokens}
use Rattle.signature.proofs.Vocabulary.{mark_tokens, sort_token, sort_tokens, entries_tokens, CanBeginSignature, SignatureState, state_after_token, OpenParen, CloseParen, Comma, Semicolon}
use Rattle.signature.specs.declared.reading.Part.TheVariants as parts

-- the state after tokens that can all stand
abbrev pub run : List NameEntry → Part → List Token → Option SignatureState
run entries part [] = Some (entries, part)
run entries part (token ∷ tokens) = option_and_then (λ (s : SignatureState). run s.0 s.1 tokens) (state_after_token entries part token)

-- the state after more tokens
abbrev pub onward : List Token → Option SignatureState → Option SignatureState
onward tokens None = None
onward tokens (Some s) = run s.0 s.1 tokens

pub run-append : (entries : List NameEntry) (part : Part) (xs ys : List Token) → run entries part (xs ++ ys) ≡ onward ys (run entries part xs)
run-append entries part [] ys = refl
run-append entries part (token ∷ xs) ys = by (state_after_token entries part token) (λ (s : SignatureState). run-append s.0 s.1 xs ys)
  where
    by : (o : Option SignatureState) → ((s : SignatureState) → run s.0 s.1 (xs ++ ys) ≡ onward ys (run s.0 s.1 xs))
        → option_and_then (λ (s : SignatureState). run s.0 s.1 (xs ++ ys)) o ≡ onward ys (option_and_then (λ (s : SignatureState). run s.0 s.1 xs) o)
    by None rest = refl
    by (Some s) rest = rest s

-- more sorts, each after a comma
run_more : (entries : List NameEntry) (name : List ℕ) (front sorts : List Sort) (rest : List Token)
    → run entries (parts.Sorts name front) (flat_map (λ s. (SymbolToken Comma) ∷ sort_token s ∷ []) sorts ++ rest) ≡ run entries (parts.Sorts name (front ++ sorts)) rest
run_more entries name front [] rest = ap (λ sorts. run entries (parts.Sorts name sorts) rest) (sym (append-nil front))
run_more entries name front (Int ∷ sorts) rest =
    run_more entries name (front ++ Int ∷ []) sorts rest ∙ ap (λ all. run entries (parts.Sorts name all) rest) (append_assoc front (Int ∷ []) sorts)
run_more entries name front (Text ∷ sorts) rest =
    run_more entries name (front ++ Text ∷ []) sorts rest ∙ ap (λ all. run entries (parts.Sorts name all) rest) (append_assoc front (Text ∷ []) sorts)

-- one sort or more
pub run_sorts : (entries : List NameEntry) (name : List ℕ) (sorts : List Sort) (rest : List Token) → 0 < length sorts → run entries (parts.Open name) (sort_tokens sorts ++ rest)
    ≡ run entries (parts.Sorts name sorts) rest
run_sorts entries name [] rest some = absurd (omega arith)
run_sorts entries name (Int ∷ sorts) rest some = run_more entries name (Int ∷ []) sorts rest
run_sorts entries name (Text ∷ sorts) rest some = run_more entries name (Text ∷ []) sorts rest

-- the sorts up to the parenthesis
run_close : (entries : List NameEntry) (name : List ℕ) (sorts : List Sort) (rest : List Token) → run entries (parts.Open name) (sort_tokens sorts ++ (SymbolToken CloseParen) ∷ rest)
    ≡ run entries (parts.Close name sorts) rest
run_close entries name [] rest = refl
run_close entries name (sort ∷ sorts) rest = run_sorts entries name (sort ∷ sorts) ((SymbolToken CloseParen) ∷ rest) (omega arith)

-- the name and the parenthesis
pub run_open : (entries : List NameEntry) (name : List ℕ) (rest : List Token) → is_name name ≡ true → run entries parts.Nothing (WordToken name ∷ (SymbolToken OpenParen) ∷ rest)
    ≡ run entries (parts.Open name) rest
run_open entries name rest named =
    ap (λ b. option_and_then (λ (s : SignatureState). run s.0 s.1 (SymbolToken OpenParen ∷ rest)) (cond b (Some (entries, parts.Name name)) None)) named

run_mark : (entries : List NameEntry) (name : List ℕ) (sorts : List Sort) (c s : Bool) (rest : List Token)
    → run entries (parts.Close name sorts) (mark_tokens c s ++ (SymbolToken Semicolon) ∷ rest)
    ≡ run (entries ++ record { text = name; sorts = sorts; causable = c; suppressible = s } ∷ []) parts.Nothing rest
run_mark entries name sorts true true rest = refl
run_mark entries name sorts true false rest = refl
run_mark entries name sorts false true rest = refl
run_mark entries name sorts false false rest = refl

-- an entry
run_entry : (entries : List NameEntry) (entry : NameEntry) (rest : List Token) → is_name entry.text ≡ true → run entries parts.Nothing (entry_tokens entry ++ rest)
    ≡ run (entries ++ entry ∷ []) parts.Nothing rest
run_entry entries entry rest named =
    let regrouped : entry_tokens entry ++ rest ≡ WordToken entry.text ∷ (SymbolToken OpenParen) ∷
    (sort_tokens entry.sorts ++ (SymbolToken CloseParen) ∷ (mark_tokens entry.causable entry.suppressible ++ (SymbolToken Semicolon) ∷ rest)) = simp append_assoc in
    ap (run entries parts.Nothing) regrouped
    ∙ run_open entries entry.text (sort_tokens entry.sorts ++ (SymbolToken CloseParen) ∷ (mark_tokens entry.causable entry.suppressible ++ (SymbolToken Semicolon) ∷ rest)) named
    ∙ run_close entries entry.text entry.sorts (mark_tokens entry.causable entry.suppressible ++ (SymbolToken Semicolon) ∷ rest)
    ∙ run_mark entries entry.text entry.sorts entry.causable entry.suppressible rest

-- entries
run_all : (before entries : List NameEntry) (rest : List Token) → AllByRecursion (λ (entry : NameEntry). IsTrue (is_name entry.text)) entries
    → run before parts.Nothing (entries_tokens entries ++ rest) ≡ run (before ++ entries) parts.Nothing rest
run_all before [] rest named = ap (λ all. run all parts.Nothing rest) (sym (append-nil before))
run_all before (entry ∷ entries) rest named =
    ap (run before parts.Nothing) (append_assoc (entry_tokens entry) (entries_tokens entries) rest)
    ∙ run_entry before entry (entries_tokens entries ++ rest) named.0
    ∙ run_all (before ++ entry ∷ []) entries rest named.1
    ∙ ap (λ all. run all parts.Nothing rest) (append_assoc before (entry ∷ []) entries)

-- the tokens of entries with names lead to those entries
pub run_tokens : (entries : List NameEntry) (rest : List Token) → AreNamed entries → run [] parts.Nothing (entries_tokens entries ++ rest) ≡ run entries parts.Nothing rest
run_tokens entries rest named = run_all [] entries rest (recursion_from_All (λ (entry : NameEntry). IsTrue (is_name entry.text)) entries named)

none_not_some : (x : SignatureState) → None ≡ Some x → ⊥
none_not_some x e = cc

state_is : (x y : SignatureState) → Some x ≡ Some y → x ≡ y
state_is x y e = cc

-- tokens that lead to entries, and are those of entries, are those of the same
pub same_entries : (entries others : List NameEntry) (part : Part) (tokens : List Token) → AreNamed others → run [] parts.Nothing tokens ≡ Some (entries, part) → tokens
    ≡ entries_tokens others → ◌≡◌ {A = SignatureState} (others, parts.Nothing) (entries, part)
same_entries entries others part tokens named reached is =
    state_is (others, parts.Nothing) (entries, part) (sym (ap (run [] parts.Nothing) (is ∙ sym (append-nil (entries_tokens others))) ∙ run_tokens others [] named) ∙ reached)

pub entries_from_tokens : (entries others : List NameEntry) → AreNamed entries → AreNamed others → entries_tokens entries ≡ entries_tokens others → entries ≡ others
entries_from_tokens entries others named named' is =
    ap (λ (s : SignatureState). s.0) (same_entries others entries parts.Nothing (entries_tokens others) named
    (ap (run [] parts.Nothing) (sym (append-nil (entries_tokens others))) ∙ run_tokens others [] named') (sym is))

-- where no state is next, no signature begins so
pub cannot_begin : (entries : List NameEntry) (part : Part) (front : List Token) (token : Token) → run [] parts.Nothing front ≡ Some (entries, part)
    → state_after_token entries part token ≡ None → CanBeginSignature (front ++ token ∷ []) → ⊥
cannot_begin entries part front token reached none (others, rest, named, is) =
    let stuck : run [] parts.Nothing (front ++ token ∷ []) ≡ None = run-append [] parts.Nothing front (token ∷ []) ∙ ap (onward (token ∷ [])) reached ∙ ap
    (option_and_then (λ (s : SignatureState). run s.0 s.1 [])) none in
    let lost : run [] parts.Nothing (entries_tokens others) ≡ None = ap (run [] parts.Nothing) is ∙ run-append [] parts.Nothing (front ++ token ∷ []) rest ∙ ap (onward rest) stuck in
    let found : run [] parts.Nothing (entries_tokens others) ≡ Some (others, parts.Nothing) = ap (run [] parts.Nothing) (sym (append-nil (entries_tokens others))) ∙ run_tokens others [] named in
    none_not_some (others, parts.Nothing) (sym lost ∙ found)
