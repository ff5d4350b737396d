-- The files that a map keeps, read by name, and what a miss does to the counts.
use Rattle.std.proofs.Common.{◌≡◌, ◌≢◌, ℕ, ◌+◌, ◌≤◌, ◌==◌, lit≤, length-take, count_by, List, [], ◌∷◌, ◌++◌, Bool, true, false, cond, map, take, min, length, refl, sym, ap, ◌∙◌, arith, Vec, Global}
use Rattle.std.proofs.Common.{String}
use Rattle.std.specs.Prelude.{Option, Some, None, Ok, Err, string_bytes}
use Rattle.std.specs.Option.{option_map}
use Rattle.std.specs.String.{string_cmp}
use Rattle.std.specs.Ordering.{nat_cmp, is_eq}
use Rattle.std.specs.Map.{lookup}
use Rattle.std.specs.Cmp.Lexicographic.{pointwise, slice_cmp, nat_list_eq_equiv, bytes_decides}
use Rattle.std.proofs.lemmas.Bool.{false_from_ne_true, true≢false}
use Rattle.std.proofs.lemmas.List.{take_min}
use Rattle.std.proofs.lemmas.List.Sums.{sum_by_push}
use Rattle.std.proofs.lemmas.Map.Text.{is_eq-slice_cmp, btree_map_updates_text}
use Rattle.enf_io.specs.declared.devices.IoRefusal.TheVariants.{Failed}
use Rattle.enf_io.specs.meaning.Files.{Contents, NoFile, FileBytes, with_contents}
use Rattle.enf_io.specs.meaning.FileCalls.{GivesContents, CountsFor, ReadsFile}
use Rattle.enf_io.specs.machine.CalmDevices.{CalmContents, contents_under, times_missed, calm_files}
use Rattle.enf_io.specs.machine.KeptFiles.{found_contents, contents_in, front_of}
use Rattle.std.specs.BTreeMap as tree

-- the map that keeps files
abbrev pub Kept : Type 0
Kept = tree.BTreeMap (String Global) (Vec ℕ Global)

-- its files, as they are told
abbrev pub files_of : Kept → List (List ℕ × List ℕ)
files_of m = map (λ e. (string_bytes e.0, e.1.items)) m.entries

-- the bytes that a look-up in the map found
abbrev pub items_of : Option (Vec ℕ Global) → Option (List ℕ)
items_of o = option_map (λ v. v.items) o

items_of-cond : (b : Bool) (v : Vec ℕ Global) (o : Option (Vec ℕ Global)) → cond b (Some v.items) (items_of o) ≡ items_of (cond b (Some v) o)
items_of-cond true v o = refl
items_of-cond false v o = refl

found-cond : (b : Bool) (v : Vec ℕ Global) (o : Option (Vec ℕ Global)) → found_contents (items_of (cond b (Some v) o)) ≡ cond b (FileBytes v.items) (found_contents (items_of o))
found-cond true v o = refl
found-cond false v o = refl

-- a look-up by a name's bytes among the files, and in the map that keeps them
lookup-files : (name : List ℕ) (es : List (String Global × Vec ℕ Global))
    → lookup (pointwise ◌==◌ name) (map (λ e. (string_bytes e.0, e.1.items)) es) ≡ items_of (lookup (λ k. is_eq (slice_cmp nat_cmp name (string_bytes k))) es)
lookup-files name [] = refl
lookup-files name (e ∷ es) =
    ap (cond (pointwise ◌==◌ name (string_bytes e.0)) (Some e.1.items)) (lookup-files name es)
    ∙ ap (λ b. cond b (Some e.1.items) (items_of (lookup (λ k. is_eq (slice_cmp nat_cmp name (string_bytes k))) es))) (sym (is_eq-slice_cmp name (string_bytes e.0)))
    ∙ items_of-cond _ e.1 _

-- the contents under a name are what the map has there
found_in_map : (name : List ℕ) (m : Kept) (files : List (List ℕ × List ℕ)) → files ≡ files_of m → contents_in files name ≡ found_contents (items_of (tree.get_by_text m name))
found_in_map name m files kept = ap (λ f. contents_in f name) kept ∙ ap found_contents (lookup-files name m.entries)

-- the front of what the map has under a name
pub front_in_map : (name : List ℕ) (m : Kept) (files : List (List ℕ × List ℕ)) (v : Vec ℕ Global) (most count : ℕ)
    → files ≡ files_of m → Some v ≡ tree.get_by_text m name → count ≡ min most (length v.items) → front_of most (contents_in files name) ≡ Some (take count v.items)
front_in_map name m files v most count kept got counted =
    ap (front_of most) (found_in_map name m files kept ∙ ap (λ o. found_contents (items_of o)) (sym got)) ∙ ap Some (sym (ap (λ n. take n v.items) counted ∙ take_min most v.items))

-- there is none of what the map does not have
pub no_front_in_map : (name : List ℕ) (m : Kept) (files : List (List ℕ × List ℕ)) (most : ℕ)
    → files ≡ files_of m → None ≡ tree.get_by_text m name → front_of most (contents_in files name) ≡ None
no_front_in_map name m files most kept got = ap (front_of most) (found_in_map name m files kept ∙ ap (λ o. found_contents (items_of o)) (sym got))

-- an insertion changes the contents under its name alone
contents_after_insert : (name : List ℕ) (key : String Global) (v : Vec ℕ Global) (m n : Kept) (x y : List (List ℕ × List ℕ))
    → x ≡ files_of m → y ≡ files_of n
    → string_bytes key ≡ name → tree.Updates string_cmp m n key (Some v) → (q : List ℕ) → contents_in y q ≡ with_contents name (FileBytes v.items) (contents_in x) q
contents_after_insert name key v m n x y old new spelled updated q =
    found_in_map q n y new ∙ ap (λ o. found_contents (items_of o)) (btree_map_updates_text (string_bytes key) m n (Some v) updated q)
    ∙ found-cond (pointwise ◌==◌ (string_bytes key) q) v (tree.get_by_text m q)
    ∙ ap (λ w. cond (pointwise ◌==◌ w q) (FileBytes v.items) (found_contents (items_of (tree.get_by_text m q)))) spelled
    ∙ ap (cond (pointwise ◌==◌ name q) (FileBytes v.items)) (sym (found_in_map q m x old))

-- an insertion makes its bytes the contents under its name
pub held_after_insert : (name : List ℕ) (key : String Global) (v : Vec ℕ Global) (m n : Kept) (x y : List (List ℕ × List ℕ))
    → x ≡ files_of m → y ≡ files_of n
    → string_bytes key ≡ name → tree.Updates string_cmp m n key (Some v) → contents_in y name ≡ FileBytes v.items
held_after_insert name key v m n x y old new spelled updated =
    contents_after_insert name key v m n x y old new spelled updated name
    ∙ ap (λ b. cond b (FileBytes v.items) (contents_in x name)) (nat_list_eq_equiv.refl name)

-- an insertion leaves the contents under every other name
pub others_after_insert : (name : List ℕ) (key : String Global) (v : Vec ℕ Global) (m n : Kept) (x y : List (List ℕ × List ℕ))
    → x ≡ files_of m → y ≡ files_of n
    → string_bytes key ≡ name → tree.Updates string_cmp m n key (Some v) → (q : List ℕ) → q ≢ name → contents_in y q ≡ contents_in x q
others_after_insert name key v m n x y old new spelled updated q differ =
    contents_after_insert name key v m n x y old new spelled updated q
    ∙ ap (λ b. cond b (FileBytes v.items) (contents_in x q)) (false_from_ne_true _ (λ same. differ (sym ((bytes_decides name q).0 same))))

-- a change under one name alone, at each name
contents_at : (name bytes : List ℕ) (x y : List ℕ → Contents) → y name ≡ FileBytes bytes → ((q : List ℕ) → q ≢ name → y q ≡ x q)
    → (q : List ℕ) (b : Bool) → pointwise ◌==◌ name q ≡ b → y q ≡ cond b (FileBytes bytes) (x q)
contents_at name bytes x y held others q true same = ap y (sym ((bytes_decides name q).0 same)) ∙ held
contents_at name bytes x y held others q false differ = others q (λ same. true≢false (sym ((bytes_decides name q).1 (sym same)) ∙ differ))

-- a change under one name alone, as the contents of all names
pub contents_from : (name bytes : List ℕ) (x y : List ℕ → Contents) → y name ≡ FileBytes bytes → ((q : List ℕ) → q ≢ name → y q ≡ x q) → y ≡ with_contents name (FileBytes bytes) x
contents_from name bytes x y held others = λ i q. contents_at name bytes x y held others q (pointwise ◌==◌ name q) refl i

-- how often a name stands in a list, after one more name
times_more : (other name : List ℕ) (names : List (List ℕ))
    → count_by (pointwise ◌==◌ other) (names ++ name ∷ []) ≡ count_by (pointwise ◌==◌ other) names + cond (pointwise ◌==◌ other name) 1 0
times_more other name names = sum_by_push (λ n. cond (pointwise ◌==◌ other n) 1 0) names name

-- so one miss more is counted for its name, and for no other
more_missed : (x y : CalmContents) (name other : List ℕ) → y.missed ≡ x.missed ++ name ∷ []
    → count_by (pointwise ◌==◌ other) y.missed ≡ count_by (pointwise ◌==◌ other) x.missed + cond (pointwise ◌==◌ other name) 1 0
more_missed x y name other noted = ap (count_by (pointwise ◌==◌ other)) noted ∙ times_more other name x.missed

one_or_none : (b : Bool) → cond b 1 0 ≤ 1
one_or_none true = lit≤ tt
one_or_none false = lit≤ tt

-- a miss that is noted is a fault for its name
CountsFor-missed : {T : Type 0} (name : List ℕ) (x y : CalmContents) → y.missed ≡ x.missed ++ name ∷ []
    → CountsFor {T = T} name (Err Failed) (times_missed x) (times_missed y)
CountsFor-missed name x y noted =
    let named = more_missed x y name name noted ∙ ap (λ b. count_by (pointwise ◌==◌ name) x.missed + cond b 1 0) (nat_list_eq_equiv.refl name) in
    record {
      named = omega (arith, named);
      at_least = λ other. omega (arith, more_missed x y name other noted);
      at_most = λ other. omega (arith, more_missed x y name other noted, one_or_none (pointwise ◌==◌ other name));
    }

-- a read that changes nothing counts nothing
CountsFor-none : {T : Type 0} (name : List ℕ) (value : T) (counts : List ℕ → ℕ) → CountsFor name (Ok value) counts counts
CountsFor-none name value counts = record { named = refl; at_least = λ other. omega arith; at_most = λ other. omega arith }

-- the front of a file is what a read gives
gives_front : (contents : Contents) (most : ℕ) (bytes : List ℕ) → front_of most contents ≡ Some bytes → GivesContents contents most bytes
gives_front NoFile most bytes front = absurd (cc)
gives_front (FileBytes all) most bytes front = cc

front_within : (contents : Contents) (most : ℕ) (bytes : List ℕ) → front_of most contents ≡ Some bytes → length bytes ≤ most
front_within NoFile most bytes front = absurd (cc)
front_within (FileBytes all) most bytes front =
    let same : bytes ≡ take most all = cc in rw (same, length-take) (omega arith)

no_front : (contents : Contents) (most : ℕ) → front_of most contents ≡ None → contents ≡ NoFile
no_front NoFile most none = refl
no_front (FileBytes all) most none = absurd (cc)

-- a read that gives the front of the contents under a name
pub ReadsFile-found : (name : List ℕ) (x : CalmContents) (bytes : Vec ℕ Global) (most : ℕ)
    → Some bytes.items ≡ front_of most (contents_under x name) → ReadsFile name most (Ok bytes) (calm_files x) (calm_files x)
ReadsFile-found name x bytes most front = record {
  within = front_within (contents_under x name) most bytes.items (sym front);
  gives = gives_front (contents_under x name) most bytes.items (sym front);
  missing = λ calm failed. absurd (cc);
  contents = refl;
  calm = refl;
  reads = CountsFor-none name bytes (times_missed x);
  writes = λ other. refl;
}

-- a read of a name that has no file
pub ReadsFile-missed : (name : List ℕ) (x y : CalmContents) (most : ℕ) → None ≡ front_of most (contents_under x name) → y.files ≡ x.files → y.missed ≡ x.missed ++ name ∷ []
    → ReadsFile name most (Err Failed) (calm_files x) (calm_files y)
ReadsFile-missed name x y most none same noted = record {
  within = tt;
  gives = tt;
  missing = λ calm failed. no_front (contents_under x name) most (sym none);
  contents = ap (λ files. Some (contents_in files)) same;
  calm = refl;
  reads = CountsFor-missed name x y noted;
  writes = λ other. refl;
}
