-- What is held back, and what a writer has once it was handed on in turns.
use Rattle.std.proofs.Common.{◌≡◌, ℕ, ◌+◌, ◌<◌, List, [], ◌∷◌, ◌++◌, take, drop, length, refl, sym, ap, ◌∙◌, subst, append_assoc, append-nil}
use Rattle.std.proofs.Math.Seq.{take-add, take-length}
use Rattle.std.proofs.lemmas.List.{take-append-drop}
use Rattle.std.specs.Io.KnownBytes.{append_known, Appends, Keeps, WriteAppends}
use Rattle.std.specs.Prelude.{Result, Ok, Err, Option, Some, None, Bool, true, false, ◌==◌, if◌then◌else◌}
use Rattle.std.specs.declared.io.Error.{Error}
use Rattle.enf_io.specs.declared.devices.IoRefusal.{IoRefusal}
use Rattle.enf_io.specs.declared.devices.IoRefusal.TheVariants.{Failed}
use Rattle.enf_io.specs.machine.Adapters.{IsOneCall, TakesInTurns, adapted_write}

-- one turn more
pub turns-more : {O : Type 0} (gives : O → List ℕ → Result ℕ Error → O → Type 0) (first : O) (bytes counts left : List ℕ)
    (before : O) (count : ℕ) (after : O) → TakesInTurns gives first bytes counts left before → 0 < count → gives before left (Ok count) after
    → TakesInTurns gives first bytes (counts ++ count ∷ []) (drop count left) after
turns-more gives first bytes [] left before count after turns some gave =
    (some, after, subst (λ b. gives first b (Ok count) after) turns.0 (subst (λ o. gives o left (Ok count) after) turns.1 gave), (ap (drop count) turns.0, refl))
turns-more gives first bytes (c ∷ counts) left before count after turns some gave =
    (turns.0, turns.1, turns.2, turns-more gives turns.1 (drop c bytes) counts left before count after turns.3 some gave)

-- bytes that are known grew by a front, and then by the front of the rest
pub appends-more : (n count : ℕ) (bytes : List ℕ) (first before after : Option (List ℕ)) → Appends first before (take n bytes)
    → Appends before after (take count (drop n bytes)) → Appends first after (take (n + count) bytes)
appends-more n count bytes None before after one two = tt
appends-more n count bytes (Some x) None after one two = absurd one
appends-more n count bytes (Some x) (Some y) None one two = absurd two
appends-more n count bytes (Some x) (Some y) (Some z) one two =
    two ∙ ap (λ l. l ++ take count (drop n bytes)) one ∙ append_assoc x (take n bytes) (take count (drop n bytes)) ∙ ap (λ l. x ++ l) (sym (take-add n count bytes))

-- a front went on, and the rest is held: all of it is there
pub keeps-split : (n : ℕ) (held left : List ℕ) (first before after : Option (List ℕ)) → left ≡ drop n held → Appends first before (take n held) → Keeps before after
    → Keeps (append_known first held) (append_known after left)
keeps-split n held left None before after rest one two = tt
keeps-split n held left (Some x) None after rest one two = absurd one
keeps-split n held left (Some x) (Some y) None rest one two = absurd two
keeps-split n held left (Some x) (Some y) (Some z) rest one two =
    ap (λ l. l ++ left) (two ∙ one) ∙ append_assoc x (take n held) left ∙ ap (λ l. x ++ (take n held ++ l)) rest ∙ ap (λ l. x ++ l) (take-append-drop n held)

pub keeps-same : (known : Option (List ℕ)) → Keeps known known
keeps-same None = tt
keeps-same (Some x) = refl

-- a piece is kept behind what is held
pub appends-kept : (known : Option (List ℕ)) (held bytes : List ℕ) → Appends (append_known known held) (append_known known (held ++ bytes)) (take (length bytes) bytes)
appends-kept None held bytes = tt
appends-kept (Some x) held bytes = sym (append_assoc x held bytes) ∙ ap (λ l. (x ++ held) ++ l) (sym (take-length bytes))

-- nothing is held any more, and a piece is
pub appends-behind : (first known : Option (List ℕ)) (bytes : List ℕ) → Keeps first (append_known known [])
    → Appends first (append_known known bytes) (take (length bytes) bytes)
appends-behind None known bytes kept = tt
appends-behind (Some x) None bytes kept = absurd kept
appends-behind (Some x) (Some y) bytes kept =
    ap (λ l. l ++ bytes) (sym (append-nil y) ∙ kept) ∙ ap (λ l. x ++ l) (sym (take-length bytes))

-- or it goes on
pub appends-past : (result : Result ℕ IoRefusal) (bytes : List ℕ) (first before after : Option (List ℕ)) → Keeps first (append_known before [])
    → WriteAppends before after result bytes → WriteAppends first (append_known after []) result bytes
appends-past (Ok count) bytes None before after kept went = tt
appends-past (Ok count) bytes (Some x) None after kept went = absurd kept
appends-past (Ok count) bytes (Some x) (Some y) None kept went = absurd went
appends-past (Ok count) bytes (Some x) (Some y) (Some z) kept went =
    append-nil z ∙ went ∙ ap (λ l. l ++ take count bytes) (sym (append-nil y) ∙ kept)
appends-past (Err why) bytes None before after kept went = tt
appends-past (Err why) bytes (Some x) None after kept went = absurd kept
appends-past (Err why) bytes (Some x) (Some y) None kept went = absurd went
appends-past (Err why) bytes (Some x) (Some y) (Some z) kept went = append-nil z ∙ went ∙ sym (append-nil y) ∙ kept

-- an adapted answer that so many bytes were taken is the answer of the outside
adapted_ok : (bytes : List ℕ) (answer : Result ℕ Error) (count : ℕ) → Ok count ≡ adapted_write bytes answer → answer ≡ Ok count
adapted_ok [] (Ok n) count told = let same : n ≡ count = cc in ap Ok same
adapted_ok (byte ∷ bytes) (Ok n) count told = by (n == 0) told
  where
    by : (none : Bool) → Ok count ≡ (if none then Err Failed else Ok n) → ◌≡◌ {A = Result ℕ Error} (Ok n) (Ok count)
    by true wrong = absurd cc
    by false is = let same : n ≡ count = cc in ap Ok same
adapted_ok bytes (Err error) count told = absurd cc

-- so a call that took them took them of the outside
pub one_call : {O : Type 0} (gives : O → List ℕ → Result ℕ Error → O → Type 0) (before after : O) (bytes piece : List ℕ) (count : ℕ) → piece ≡ bytes
    → IsOneCall (λ answer. gives before piece answer after) (adapted_write piece) (Ok count) → gives before bytes (Ok count) after
one_call gives before after bytes piece count same call =
    subst (λ b. gives before b (Ok count) after) same
    (subst (λ answer. gives before piece answer after) (adapted_ok piece call.answer count call.told) call.called)

-- what is left is what the last call was given
pub last_call : {O : Type 0} (gives : O → List ℕ → Result ℕ Error → O → Type 0) (before after : O) (bytes piece : List ℕ) (why : IoRefusal) → piece ≡ bytes
    → IsOneCall (λ answer. gives before piece answer after) (adapted_write piece) (Err why) → IsOneCall (λ answer. gives before bytes answer after) (adapted_write bytes) (Err why)
last_call gives before after bytes piece why same call =
    subst (λ b. IsOneCall (λ answer. gives before b answer after) (adapted_write b) (Err why)) same call
