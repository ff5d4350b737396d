-- What a read of a file tells, where it asks for one byte more than the file may have, and the formulas of a policy.
use Rattle.enf_run.proofs.Vocabulary.{◌≡◌, ℕ, ◌+◌, ◌<◌, ◌≤◌, List, [], ◌∷◌, length, map, refl, ap, ◌∙◌, arith, length-take, Option, None, Some, IfSome, Result, Err, take_all, Vec, Global, Formula}
use Rattle.enf_run.proofs.Vocabulary.{tree_of, stored_rule_formulas as read_formulas, rule_of, Contents, Draws, NoFile, FileBytes, FileView, GivesContents, faults_after, CountsFor, ReadsFile, IoRefusal}
use Rattle.enf_run.proofs.Vocabulary.{Failed, NoMemory, AreBytesHeld, IsLongFile, IsFileNotRead, IsShortFile, all_formulas}
use Rattle.formula_reader.specs.declared.policies.Rule.{Rule}

-- the formulas of rules are those of the rules as they were read
pub same_formulas : (rules : List Rule) → read_formulas rules ≡ all_formulas (map rule_of rules)
same_formulas [] = refl
same_formulas (rule ∷ rules) = ap (λ (fs : List Formula). tree_of rule.formula ∷ fs) (same_formulas rules)

long_of : (most : ℕ) (c : Contents) (bytes : List ℕ) → GivesContents c (most + 1) bytes → most < length bytes → (all : List ℕ) × AreBytesHeld all c × (most < length all)
long_of most NoFile bytes g l = absurd g
long_of most (FileBytes all) bytes g l = (all, refl, omega (arith, ap length g, length-take (most + 1) all))

pub is_long : (most : ℕ) (told : Option (List ℕ → Contents)) (name bytes : List ℕ)
    → IfSome told (λ files. GivesContents (files name) (most + 1) bytes) → most < length bytes
    → IsLongFile most told name
is_long most None name bytes g l = record { bytes = bytes; under = tt; long = l }
is_long most (Some files) name bytes g l = let h = long_of most (files name) bytes g l in record { bytes = h.0; under = h.1; long = h.2 }

short_of : (most : ℕ) (c : Contents) (bytes : List ℕ) → GivesContents c (most + 1) bytes → length bytes ≤ most → AreBytesHeld bytes c
short_of most NoFile bytes g l = absurd g
short_of most (FileBytes all) bytes g l = g ∙ take_all (most + 1) all (omega (arith, ap length g, length-take (most + 1) all))

pub is_short : (most : ℕ) (told : Option (List ℕ → Contents)) (name bytes : List ℕ)
    → IfSome told (λ files. GivesContents (files name) (most + 1) bytes) → length bytes ≤ most
    → IsShortFile most told name bytes
is_short most None name bytes g l = record { under = tt; short = l }
is_short most (Some files) name bytes g l = record { under = short_of most (files name) bytes g l; short = l }

-- a call that meets no fault leaves the counts of all names
pub same_counts : {T : Type 0} (name : List ℕ) (result : Result T IoRefusal) (before after : List ℕ → ℕ)
    → CountsFor name result before after → ((n : ℕ) → faults_after result n ≡ n) → (other : List ℕ)
    → after other ≡ before other
same_counts name result before after counts none other =
    let least = counts.at_least other in
    let most = counts.at_most other in
    let same = none (before other) in
    omega arith

-- a read that meets no fault leaves the files as they were
same_files : (name : List ℕ) (most : ℕ) (result : Result (Vec ℕ Global) IoRefusal) (before after : FileView)
    → ReadsFile name most result before after → ((n : ℕ) → faults_after result n ≡ n) → after ≡ before
same_files name most result before after r none =
    let reads = same_counts name result before.read_faults after.read_faults r.reads none in
    λ i. record { contents = r.contents i; is_calm = r.calm i; read_faults = λ other. reads other i; write_faults = λ other. r.writes other i }

pub is_not_read : (most : ℕ) (name : List ℕ) (refusal : IoRefusal) (before after : FileView) → ReadsFile name (most + 1) (Err refusal) before after → IsFileNotRead most name before after refusal
is_not_read most name Failed before after r = r
is_not_read most name NoMemory before after r = same_files name (most + 1) (Err NoMemory) before after r (λ n. refl)

-- a draw that was refused counts as a read that was
pub not_drawn : {T : Type 0} (most : ℕ) (name : List ℕ) (refusal : IoRefusal) (before after : FileView) → Draws {T = T} name (Err refusal) before after → IsFileNotRead most name before after refusal
not_drawn most name Failed before after d = d.failed refl (most + 1)
not_drawn most name NoMemory before after d = d.no_memory refl
