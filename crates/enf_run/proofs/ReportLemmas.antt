-- What is added to the report, piece by piece.
use Rattle.enf_run.proofs.Vocabulary.{◌≡◌, ◌≢◌, ℕ, ◌+◌, ◌<◌, List, [], ◌∷◌, ◌++◌, length, take, drop, get_or, refl, sym, ap, ◌∙◌, append_assoc, arith, length-append, length-drop, Option, Err}
use Rattle.enf_run.proofs.Vocabulary.{flat_map, append-nil, take-append-drop, take_more, flat_map-append, Exchange, Gave, write_faults_after, WriteRefusal, cut_after, write_faults_behind, AddsPart}
use Rattle.enf_run.proofs.ExchangeLemmas.{gave_more}
use Rattle.enf_io.specs.declared.writing.WriteRefusal.TheVariants as writes

-- the count after a refusal to write is that after what it makes of the output
pub cut_counts : (T S : Type 0) (why : WriteRefusal) (count : ℕ) → write_faults_after {T = T} (Err why) count ≡ write_faults_behind {T = S} (Err (cut_after why)) count
cut_counts T S (writes.WriteFault written) count = refl
cut_counts T S (writes.NoMemory written) count = refl

-- of a list with something in it
pub not_empty : (xs : List ℕ) → 0 < length xs → xs ≢ []
not_empty xs some none = omega (arith, ap length none)

-- the first pieces are added, and of the next one a part
pub pieces_part : {X : Type 0} (f : X → List ℕ) (xs : List X) (i count : ℕ) (d : X) (a b c : Option Exchange) → i < length xs → count < length (f (get_or xs i d))
    → Gave (flat_map f (take i xs)) a b → Gave (take count (f (get_or xs i d))) b c → AddsPart (flat_map f xs) a c
pieces_part {X = X} f xs i count d a b c within less first next =
    let piece : List ℕ = f (get_or xs i d) in
    let before : List ℕ = flat_map f (take i xs) in
    let behind : List ℕ = flat_map f (drop (i + 1) xs) in
    let one : flat_map f (take (i + 1) xs) ≡ before ++ piece =
    ap (flat_map f) (take_more xs i d within) ∙ flat_map-append f (take i xs) (get_or xs i d ∷ []) ∙ ap (λ ys. before ++ ys) (append-nil piece) in
    let whole : flat_map f xs ≡ (before ++ piece) ++ behind =
    ap (flat_map f) (sym (take-append-drop (i + 1) xs)) ∙ flat_map-append f (take (i + 1) xs) (drop (i + 1) xs) ∙ ap (λ ys. ys ++ behind) one in
    let parts : (before ++ piece) ++ behind ≡ (before ++ take count piece) ++ (drop count piece ++ behind) =
    ap (λ ys. (before ++ ys) ++ behind) (sym (take-append-drop count piece)) ∙ ap (λ ys. ys ++ behind) (sym (append_assoc before (take count piece) (drop count piece)))
    ∙ append_assoc (before ++ take count piece) (drop count piece) behind in
    record {
      front = before ++ take count piece;
      part = record {
        rest = drop count piece ++ behind;
        some = not_empty (drop count piece ++ behind) (omega (arith, length-append (drop count piece) behind, length-drop count piece, less));
        split = whole ∙ parts;
      };
      gave = gave_more before (take count piece) a b c first next;
    }
