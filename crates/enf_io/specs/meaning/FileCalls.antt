-- What a call on files does to what is seen of them.
use Rattle.std.specs.Option.{option_map}
use Rattle.std.specs.Prelude.{◌≡◌, ℕ, List, take, ◌≢◌, Option, None, Some, Result, Ok, Err, ◌≤◌, length, IsTrue, IfSome}
use Rattle.std.specs.Prelude.{IfOk, IsErrOf, OnOk}
use Rattle.std.specs.declared.alloc.Global.{Global}
use Rattle.std.specs.declared.vec.Vec.{Vec}
use Rattle.enf_io.specs.declared.devices.IoRefusal.{IoRefusal}
use Rattle.enf_io.specs.declared.devices.IoRefusal.TheVariants.{Failed, NoMemory}
use Rattle.enf_io.specs.meaning.Files.{Contents, NoFile, FileBytes, one_more, FileView, with_contents}

-- a file gives its bytes, or the first of them where it has more than that many
abbrev pub GivesContents : Contents → ℕ → List ℕ → Type 0
GivesContents NoFile most bytes = ⊥
GivesContents (FileBytes all) most bytes = bytes ≡ take most all

-- where files are told, those of all other names are as before
abbrev pub AreSameExcept : List ℕ → Option (List ℕ → Contents) → Option (List ℕ → Contents) → Type 0
AreSameExcept name None after = after ≡ None
AreSameExcept name (Some x) None = ⊥
AreSameExcept name (Some x) (Some y) = (other : List ℕ) → other ≢ name → y other ≡ x other

-- a count after a call: a fault, and nothing else, is one more
abbrev pub faults_after : {T : Type 0} → Result T IoRefusal → ℕ → ℕ
faults_after (Ok value) count = count
faults_after (Err Failed) count = one_more count
faults_after (Err NoMemory) count = count

-- the counts of all names after a call on one: a fault, and nothing else, is one more for it, and may be for others
pub record CountsFor {T : Type 0} (name : List ℕ) (result : Result T IoRefusal) (before after : List ℕ → ℕ)
    : Type 0 where
  pub named : after name ≡ faults_after result (before name)
  pub at_least : (other : List ℕ) → before other ≤ after other
  pub at_most : (other : List ℕ) → after other ≤ faults_after result (before other)

-- a read of up to so many bytes under a name
pub record ReadsFile (name : List ℕ) (most : ℕ) (result : Result (Vec ℕ Global) IoRefusal) (before after : FileView)
    : Type 0 where
  pub within : IfOk result (λ bytes. length bytes.items ≤ most)
  pub gives : IfOk result (λ bytes. IfSome before.contents (λ files. GivesContents (files name) most bytes.items))
  pub missing : IsTrue before.is_calm → IsErrOf result Failed → IfSome before.contents (λ files. files name ≡ NoFile)
  pub contents : after.contents ≡ before.contents
  pub calm : after.is_calm ≡ before.is_calm
  pub reads : CountsFor name result before.read_faults after.read_faults
  pub writes : (other : List ℕ) → after.write_faults other ≡ before.write_faults other

-- a write of these bytes as the contents under a name: after a fault no contents are told under it
pub record WritesFile {T : Type 0} (name bytes : List ℕ) (result : Result T IoRefusal) (before after : FileView)
    : Type 0 where
  pub put : OnOk result (after.contents ≡ option_map (with_contents name (FileBytes bytes)) before.contents)
  pub failed : IsErrOf result Failed → AreSameExcept name before.contents after.contents
  pub no_memory : IsErrOf result NoMemory → after.contents ≡ before.contents
  pub calm : after.is_calm ≡ before.is_calm
  pub writes : CountsFor name result before.write_faults after.write_faults
  pub reads : (other : List ℕ) → after.read_faults other ≡ before.read_faults other
