-- The words of a call as the program has them, and the forms that they match.
use Rattle.std.specs.Option.{option_map}
use Rattle.std.specs.Prelude.{Option, ◌⊎◌, ℕ, List, None, ◌≡◌, Some}
use Rattle.enf_run.specs.declared.words.Form.{Form}
use Rattle.enf_run.specs.meaning.Calls.{IsEnforceForm, IsCheckForm, IsAuditForm, IsGenerateForm, IsDrillForm}
use Rattle.enf_run.specs.meaning.Calls.{NamesEnforce}
use Rattle.enf_run.specs.meaning.Headline.{States}
use Rattle.enf_run.specs.declared.words.Form.TheVariants as forms

abbrev pub states_of : (resumed saved : Option (List ℕ)) → States
states_of resumed saved = record { resumed = resumed; saved = saved }

-- the words match no form, and enforce with none of the files for states, with one of them, or with both
pub record MatchNone (words : List (List ℕ)) : Type 0 where
  pub enforce : (signature policy : List ℕ) → IsEnforceForm (states_of None None) words signature policy → ⊥
  pub save : (signature policy file : List ℕ) → IsEnforceForm (states_of None (Some file)) words signature policy → ⊥
  pub resume : (signature policy state : List ℕ)
      → IsEnforceForm (states_of (Some state) None) words signature policy → ⊥
  pub resume_and_save : (signature policy state file : List ℕ)
      → IsEnforceForm (states_of (Some state) (Some file)) words signature policy → ⊥
  pub check : (signature policy : List ℕ) → IsCheckForm words signature policy → ⊥
  pub audit : (signature policy : List ℕ) → IsAuditForm words signature policy → ⊥
  pub generate : (start steps : ℕ) → IsGenerateForm words start steps → ⊥
  pub drill : (start steps : ℕ) → IsDrillForm words start steps → ⊥

-- a form that names a signature and a policy
abbrev pub NamesFiles : List (List ℕ) → List ℕ → List ℕ → Type 0
NamesFiles words signature policy =
    NamesEnforce words signature policy
    ⊎ (IsCheckForm words signature policy ⊎ IsAuditForm words signature policy)

-- it names these two files alone
abbrev pub NamesFilesAlone : List (List ℕ) → List ℕ → List ℕ → Type 0
NamesFilesAlone words signature policy =
    IsEnforceForm (states_of None None) words signature policy
    ⊎ (IsCheckForm words signature policy ⊎ IsAuditForm words signature policy)

-- the words name this file as that of the state to resume
abbrev pub NamesResumed : List (List ℕ) → List ℕ → Type 0
NamesResumed words file =
    (states : States) × (signature policy : List ℕ) × IsEnforceForm states words signature policy
    × (states.resumed ≡ Some file)

-- the words match the form, with what stands in its places
abbrev pub MatchesForm : List (List ℕ) → Form → Type 0
MatchesForm words (forms.Enforce signature policy resume save) =
    IsEnforceForm (states_of (option_map (λ file. file.now) resume) (option_map (λ file. file.now) save)) words
    signature.now policy.now
MatchesForm words (forms.Check signature policy) = IsCheckForm words signature.now policy.now
MatchesForm words (forms.Audit signature policy) = IsAuditForm words signature.now policy.now
MatchesForm words (forms.Generate start steps) = IsGenerateForm words start steps
MatchesForm words (forms.Drill start steps) = IsDrillForm words start steps
