-- For which histories a `Mux` stands: at first, and what it refuses.
use Rattle.std.proofs.Common.{ap, arith, refl, sym, ◌∙◌, suc, zero}
use Rattle.std.proofs.lemmas.Bool.Decides.{nat_tests}
use Rattle.std.proofs.lemmas.List.{length-replicate}
use Rattle.std.specs.List.{range_with_len}
use Rattle.std.specs.Prelude.{ℕ, List, [], ◌∷◌, ◌++◌, ◌≡◌, ◌+◌, ◌-◌, ◌<◌, ◌≤◌, Bool, true, false, cond, length, nat_lt, Option, None, Some}
use Rattle.std.specs.Prelude.{get_or, map, replicate, set, slice_get}
use Rattle.stream_mux.specs.declared.records.MuxRefusal.TheVariants.{NoStream, Closed}
use Rattle.stream_mux.specs.machine.Laws.{FreshMuxesStand, RefusesByHistory}
use Rattle.stream_mux.specs.machine.MuxStates.{refusal_by}
use Rattle.stream_mux.specs.meaning.MergedStreams.{falling, is_closed, mark_after, open_mark, open_marks}

-- what stands at a place of what a function gives of a range
pub range_at : {X : Type 0} (f : ℕ → X) (a n k : ℕ)
    → slice_get (map f (range_with_len a n)) k ≡ cond (nat_lt k n) (Some (f (a + k))) None
range_at f a zero k = by (nat_lt k 0) refl
  where
    by : (b : Bool) → nat_lt k 0 ≡ b → None ≡ cond b (Some (f (a + k))) None
    by true e = absurd (let low : k < 0 = grind (arith, nat_tests) in omega arith)
    by false e = refl
range_at f a (suc n) zero = ap (λ (j : ℕ). Some (f j)) {x = a} {y = a + 0} (omega arith) ∙ by (nat_lt 0 (suc n)) refl
  where
    by : (b : Bool) → nat_lt 0 (suc n) ≡ b → Some (f (a + 0)) ≡ cond b (Some (f (a + 0))) None
    by true e = refl
    by false e = absurd (let high : suc n ≤ 0 = grind (arith, nat_tests) in omega arith)
range_at f a (suc n) (suc k) =
    range_at f (a + 1) n k ∙ ap (λ (j : ℕ). cond (nat_lt k n) (Some (f j)) None) {x = a + 1 + k} {y = a + suc k} (omega arith)
    ∙ ap (λ b. cond b (Some (f (a + suc k))) None) (same_test (nat_lt k n) (nat_lt (suc k) (suc n)) refl refl)
  where
    same_test : (b d : Bool) → nat_lt k n ≡ b → nat_lt (suc k) (suc n) ≡ d → b ≡ d
    same_test true true p q = refl
    same_test true false p q = absurd (let low : k < n = grind (arith, nat_tests) in let high : suc n ≤ suc k = grind (arith, nat_tests) in omega arith)
    same_test false true p q = absurd (let high : n ≤ k = grind (arith, nat_tests) in let low : suc k < suc n = grind (arith, nat_tests) in omega arith)
    same_test false false p q = refl

pub refuses_by_history : RefusesByHistory
refuses_by_history mux history stream offer stands =
    ap (λ marks. refusal_by (slice_get marks stream) stream offer) stands.marks
    ∙ ap (λ mark. refusal_by mark stream offer) (range_at (open_mark history) 0 (length mux.marks) stream)
    ∙ ap (λ (s : ℕ). refusal_by (cond (nat_lt stream (length mux.marks)) (Some (open_mark history s)) None) stream offer)
    {x = 0 + stream} {y = stream} (omega arith)
    ∙ by (nat_lt stream (length mux.marks)) (is_closed history stream)
  where
    by : (b d : Bool) → refusal_by (cond b (Some (cond d None (Some (mark_after history stream)))) None) stream offer
        ≡ cond b (cond d (Some (Closed stream)) (falling stream (mark_after history stream) offer)) (Some (NoStream stream))
    by true true = refl
    by true false = refl
    by false d = refl

first_marks : (a n : ℕ) → map (open_mark []) (range_with_len a n) ≡ replicate n (Some 0)
first_marks a zero = refl
first_marks a (suc n) = ap (λ marks. Some 0 ∷ marks) (first_marks (a + 1) n)

nothing_anywhere : {X : Type 0} (n k : ℕ) → get_or (replicate n (let none : List X = [] in none)) k [] ≡ []
nothing_anywhere zero k = refl
nothing_anywhere (suc n) zero = refl
nothing_anywhere (suc n) (suc k) = nothing_anywhere n k

pub fresh_muxes_stand : FreshMuxesStand
fresh_muxes_stand streams = record {
  taken = tt;
  marks = sym (first_marks 0 streams) ∙ ap (λ n. open_marks n []) (sym (length-replicate streams (Some 0)));
  waits = λ stream. nothing_anywhere streams stream;
  greatest = refl;
}

-- one mark more is set
abbrev pub first_mark : Option ℕ
first_mark = Some 0

fill_place : (k m : ℕ) → set (replicate k first_mark ++ replicate (suc m) None) k first_mark ≡ replicate (suc k) first_mark ++ replicate m None
fill_place zero m = refl
fill_place (suc k) m = ap (λ l. first_mark ∷ l) (fill_place k m)

pub marks_filled : (n k : ℕ) → k < n
    → set (replicate k first_mark ++ replicate (n - k) None) k first_mark ≡ replicate (k + 1) first_mark ++ replicate (n - (k + 1)) None
marks_filled n k below =
    ap (λ (m : ℕ). set (replicate k first_mark ++ replicate m None) k first_mark) {x = n - k} {y = suc (n - (k + 1))} (omega arith)
    ∙ fill_place k (n - (k + 1))
    ∙ ap (λ (j : ℕ). replicate j first_mark ++ replicate (n - (k + 1)) None) {x = suc k} {y = k + 1} (omega arith)
