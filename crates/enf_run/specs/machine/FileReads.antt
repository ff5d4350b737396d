-- Reads of files that may have so many bytes, what these hold, and why they give nothing.
use Rattle.std.specs.Prelude.{ℕ, ◌<◌, List, length, Option, ◌≤◌, ◌≡◌}
use Rattle.enf_io.specs.declared.devices.IoRefusal.{IoRefusal}
use Rattle.enf_io.specs.declared.devices.IoRefusal.TheVariants.{Failed, NoMemory}
use Rattle.enf_io.specs.meaning.Files.{Contents, FileView}
use Rattle.signature.specs.declared.entries.NameEntry.{NameEntry}
use Rattle.formula_reader.specs.meaning.Resolution.{Rule}
use Rattle.save_codec.specs.meaning.SavedBounds.{SaveSetting as Bounds}
use Rattle.enf_run.specs.declared.endings.FileEnding.{FileEnding}
use Rattle.enf_run.specs.declared.refusals.PolicyRefusal.{PolicyRefusal}
use Rattle.enf_run.specs.declared.refusals.SignatureRefusal.{SignatureRefusal}
use Rattle.enf_run.specs.declared.refusals.StateRefusal.{StateRefusal}
use Rattle.enf_run.specs.meaning.Sources.{AreBytesUnder, FailsToRead, IsRefusedPolicy, IsRefusedSignature}
use Rattle.enf_run.specs.meaning.Sources.{IsRefusedState, SpellsPolicy, SpellsSignature}
use Rattle.enf_run.specs.declared.endings.FileEnding.TheVariants as endings

-- a file has more bytes than so many
pub record IsLongFile (most : ℕ) (told : Option (List ℕ → Contents)) (name : List ℕ) : Type 0 where
  pub bytes : List ℕ
  pub under : AreBytesUnder told name bytes
  pub long : most < length bytes

-- the bytes are a file's, and no more than so many
pub record IsShortFile (most : ℕ) (told : Option (List ℕ → Contents)) (name bytes : List ℕ) : Type 0 where
  pub under : AreBytesUnder told name bytes
  pub short : length bytes ≤ most

-- the file holds these bytes, which are this signature
pub record HoldsSignature (told : Option (List ℕ → Contents)) (name bytes : List ℕ) (entries : List NameEntry)
    : Type 0 where
  pub under : AreBytesUnder told name bytes
  pub is_signature : SpellsSignature bytes entries

-- the file holds these bytes, which are an accepted policy of these rules under this signature
pub record HoldsPolicy (told : Option (List ℕ → Contents)) (name bytes : List ℕ) (entries : List NameEntry)
    (policy : List Rule) : Type 0 where
  pub under : AreBytesUnder told name bytes
  pub is_policy : SpellsPolicy entries bytes policy

-- the file holds bytes that are refused so as a signature
pub record HoldsRefusedSignature (told : Option (List ℕ → Contents)) (name : List ℕ) (why : SignatureRefusal)
    : Type 0 where
  pub bytes : List ℕ
  pub under : AreBytesUnder told name bytes
  pub refused : IsRefusedSignature why bytes

-- the file holds bytes that are refused so as a policy under this signature
pub record HoldsRefusedPolicy (told : Option (List ℕ → Contents)) (name : List ℕ) (entries : List NameEntry)
    (why : PolicyRefusal) : Type 0 where
  pub bytes : List ℕ
  pub under : AreBytesUnder told name bytes
  pub refused : IsRefusedPolicy entries why bytes

-- the file holds bytes that are refused so as a state
pub record HoldsRefusedState (told : Option (List ℕ → Contents)) (name signature policy : List ℕ) (bounds : Bounds)
    (why : StateRefusal) : Type 0 where
  pub bytes : List ℕ
  pub under : AreBytesUnder told name bytes
  pub refused : IsRefusedState why signature policy bounds bytes

-- why a file was not read
abbrev pub IsFileNotRead : (most : ℕ) → List ℕ → FileView → FileView → IoRefusal → Type 0
IsFileNotRead most name before after Failed = FailsToRead most name before after
IsFileNotRead most name before after NoMemory = after ≡ before

-- why a file that may have so many bytes gives nothing: what it holds is refused so, or it was not read
abbrev pub EndsFile : (most : ℕ) → {W : Type 0} → (W → Type 0) → List ℕ → FileView → FileView
    → FileEnding W → Type 0
EndsFile most Refuses name before after (endings.Refused why) = Refuses why × (after ≡ before)
EndsFile most Refuses name before after (endings.NotRead why) = IsFileNotRead most name before after why
