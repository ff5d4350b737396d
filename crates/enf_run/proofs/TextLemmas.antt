-- A text that is given in parts, one after the other.
use Rattle.enf_run.proofs.Vocabulary.{arith, ◌≡◌, ℕ, ◌+◌, ◌<◌, List, [], ◌∷◌, ◌++◌, length, take, drop, get_or, refl, sym, ap, subst, ◌∙◌, append_assoc, Ok, Err, flat_map, append-nil, take-append-drop}
use Rattle.enf_run.proofs.Vocabulary.{Exchange, Gave, Option, take_more, flat_map-append, Stream, WritesAll, written_before, WriteRefusal, cut_after, write_faults_behind, WritesText, Cut}
use Rattle.enf_run.proofs.CutLineLemmas.{part_none, part_take}
use Rattle.enf_run.proofs.ExchangeLemmas.{gave_more, gave_none}
use Rattle.enf_run.proofs.ReportLemmas.{cut_counts}
use Rattle.enf_run.specs.declared.endings.Cut.TheVariants as cuts

-- what is empty has an empty front
front_empty : (xs ys : List ℕ) → xs ++ ys ≡ [] → xs ≡ []
front_empty [] ys e = refl
front_empty (x ∷ xs) ys e = cc

back_empty : (xs ys : List ℕ) → [] ≡ xs ++ ys → ys ≡ []
back_empty [] ys e = sym e
back_empty (x ∷ xs) ys e = cc

-- a text was given whole, or cut
abbrev pub Whole : List ℕ → Stream → Stream → Type 0
Whole text before after = WritesText {T = Unit {0}} text (Ok tt) before after

abbrev pub Broken : List ℕ → Cut → Stream → Stream → Type 0
Broken text cut before after = WritesText {T = Unit {0}} text (Err cut) before after

-- of no text all is given
pub whole_none : (a : Stream) → Whole [] a a
whole_none a = record { adds = gave_none a.told; writes = refl; reads = refl; late = refl }

-- where a text was cut that is made of some things there is one of these
pub some_cut : {A : Type 0} (f : A → List ℕ) (xs : List A) (cut : Cut) (a b : Stream) → Broken (flat_map f xs) cut a b
    → 0 < length xs
some_cut f [] cut a b w = absurd (w.adds.part.some (back_empty w.adds.front w.adds.part.rest w.adds.part.split))
some_cut f (x ∷ xs) cut a b w = omega (arith)

-- running out of memory came before any of it
pub broken_at_once : (text : List ℕ) → 0 < length text → (a : Stream) → Broken text cuts.NoMemory a a
broken_at_once text some a = record { adds = record { front = []; part = part_none text some; gave = gave_none a.told }; writes = refl; reads = refl; late = refl }

module _ (first rest : List ℕ) (a b : Stream) where
  -- a part of the first is a part of both
  pub cut_first : (cut : Cut) → Broken first cut a b → Broken (first ++ rest) cut a b
  cut_first cut w =
      let part = w.adds.part in
      record {
        adds = record {
          front = w.adds.front;
          part = record {
            rest = part.rest ++ rest;
            some = λ none. part.some (front_empty part.rest rest none);
            split = ap (λ (t : List ℕ). t ++ rest) part.split ∙ append_assoc w.adds.front part.rest rest;
          };
          gave = w.adds.gave;
        };
        writes = w.writes;
        reads = w.reads;
        late = w.late;
      }

  module _ (whole : Whole first a b) (c : Stream) where
    -- after the first the rest
    pub then_whole : Whole rest b c → Whole (first ++ rest) a c
    then_whole w =
        record { adds = gave_more first rest a.told b.told c.told whole.adds w.adds; writes = w.writes ∙ whole.writes; reads = w.reads ∙ whole.reads; late = w.late ∙ whole.late }

    -- or a part of it
    pub then_cut : (cut : Cut) → Broken rest cut b c → Broken (first ++ rest) cut a c
    then_cut cut w =
        let part = w.adds.part in
        record {
          adds = record {
            front = first ++ w.adds.front;
            part = record {
              rest = part.rest;
              some = part.some;
              split = ap (λ (t : List ℕ). first ++ t) part.split ∙ sym (append_assoc first w.adds.front part.rest);
            };
            gave = gave_more first w.adds.front a.told b.told c.told whole.adds w.adds.gave;
          };
          writes = w.writes ∙ ap (write_faults_behind {T = Unit {0}} (Err cut)) whole.writes;
          reads = w.reads ∙ whole.reads;
          late = w.late ∙ whole.late;
        }

-- pieces one after another
module _ {X : Type 0} (f : X → List ℕ) (xs : List X) (i : ℕ) (d : X) (within : i < length xs) (a b c : Stream) (before : Whole (flat_map f (take i xs)) a b) where
  front_more : flat_map f (take (i + 1) xs) ≡ flat_map f (take i xs) ++ f (get_or xs i d)
  front_more =
      ap (flat_map f) (take_more xs i d within) ∙ flat_map-append f (take i xs) (get_or xs i d ∷ []) ∙ ap (λ (ys : List ℕ). flat_map f (take i xs) ++ ys) (append-nil (f (get_or xs i d)))

  -- one more is whole
  pub piece_whole : Whole (f (get_or xs i d)) b c → Whole (flat_map f (take (i + 1) xs)) a c
  piece_whole w = subst (λ (t : List ℕ). Whole t a c) (sym front_more) (then_whole (flat_map f (take i xs)) (f (get_or xs i d)) a b before c w)

  -- or cut
  pub piece_cut : (cut : Cut) → Broken (f (get_or xs i d)) cut b c → Broken (flat_map f xs) cut a c
  piece_cut cut w =
      let all : flat_map f xs ≡ (flat_map f (take i xs) ++ f (get_or xs i d)) ++ flat_map f (drop (i + 1) xs) =
      ap (flat_map f) (sym (take-append-drop (i + 1) xs)) ∙ flat_map-append f (take (i + 1) xs) (drop (i + 1) xs) ∙ ap (λ (ys : List ℕ). ys ++ flat_map f (drop (i + 1) xs)) front_more in
      subst (λ (t : List ℕ). Broken t cut a c) (sym all)
      (cut_first (flat_map f (take i xs) ++ f (get_or xs i d)) (flat_map f (drop (i + 1) xs)) a c cut (then_cut (flat_map f (take i xs)) (f (get_or xs i d)) a b before c cut w))

pub written_cut : (bytes : List ℕ) (why : WriteRefusal) (a b : Stream) → WritesAll {T = Unit {0}} bytes (Err why) a b → Broken bytes (cut_after why) a b
written_cut bytes why a b w =
    record {
      adds = record { front = take (written_before why) bytes; part = part_take bytes (written_before why) w.not_whole; gave = w.part };
      writes = w.writes ∙ cut_counts (Unit {0}) (Unit {0}) why a.write_faults;
      reads = w.reads;
      late = w.late;
    }

-- a text that was given whole, and what the gate held back was handed on
pub whole_handed : (text : List ℕ) (a b c : Stream) → Whole text a b → c.told ≡ b.told → c.write_faults ≡ b.write_faults → c.read_faults ≡ b.read_faults
    → c.late_reads ≡ b.late_reads → Whole text a c
whole_handed text a b c w told writes reads late =
    record { adds = subst (λ (o : Option Exchange). Gave text a.told o) (sym told) w.adds; writes = writes ∙ w.writes; reads = reads ∙ w.reads; late = late ∙ w.late }
