-- What a draw of a number does to what is seen of files.
use Rattle.std.specs.Prelude.{◌≡◌, ℕ, List, Result, Err, IsErrOf, OnOk}
use Rattle.enf_io.specs.declared.devices.IoRefusal.{IoRefusal}
use Rattle.enf_io.specs.declared.devices.IoRefusal.TheVariants.{Failed, NoMemory}
use Rattle.enf_io.specs.meaning.FileCalls.{ReadsFile}
use Rattle.enf_io.specs.meaning.Files.{FileView}

-- a draw of a number leaves what is seen of files; one that fails is a read under the name that failed
pub record Draws {T : Type 0} (name : List ℕ) (result : Result T IoRefusal) (before after : FileView) : Type 0 where
  pub same : OnOk result (after ≡ before)
  pub failed : IsErrOf result Failed → (most : ℕ) → ReadsFile name most (Err Failed) before after
  pub no_memory : IsErrOf result NoMemory → after ≡ before
