-- What becomes known of the sorts of variables.
use Rattle.save_codec.proofs.Vocabulary.{◌≡◌, ◌⊎◌, ◌↔◌, Bool, true, false, not, IsTrue, Contains, Option, None, slice_get, List, ℤ, ℕ, [], ◌∷◌, ⊎_elim, inl, inr, refl, sym, ap, subst, ◌∙◌, NameId}
use Rattle.save_codec.proofs.Vocabulary.{Term, Var, VarId, Value, variable_is, entry_columns, NameEntry, Sort, Int, HasBesides, Knows, Learns, AtomTells, FitsTold, TermTells, TermsTell, Known}
use Rattle.signature.specs.declared.entries.Sort.TheVariants.{Text}
use Rattle.enf_data.specs.declared.values.Value.TheVariants as values

pub learns_none : (P : VarId → Sort → Type 0) (a : Known) → ((x : VarId) (sort : Sort) → P x sort → ⊥) → Learns P a a
learns_none P a none = λ x sort. (inl, λ k. ⊎_elim (λ h. h) (λ p. absurd (none x sort p)) k)

int_is_no_text : Int ≡ Text → ⊥
int_is_no_text e = cc

text_is_no_int : Text ≡ Int → ⊥
text_is_no_int e = cc

pub learns_int : (v : VarId) (term : Term) (before after : Known) → term ≡ Var v → HasBesides v before.ints.items after.ints.items → after.texts.items ≡ before.texts.items
    → Learns (TermTells term Int) before after
learns_int v term before after is has stays = λ x sort. by x sort
  where
    by : (x : VarId) (sort : Sort) → Knows after x sort ↔ (Knows before x sort ⊎ TermTells term Int x sort)
    by x Int = (
      λ k. ⊎_elim inl (λ e. inr (is ∙ ap Var e, refl)) ((has x).0 k),
      λ k. (has x).1 (⊎_elim inl (λ t. inr (variable_is v x (sym is ∙ t.0))) k),
    )
    by x Text = (
      λ k. inl (subst (λ (l : List VarId). Contains l x) stays k),
      λ k. ⊎_elim (λ h. subst (λ (l : List VarId). Contains l x) (sym stays) h) (λ t. absurd (int_is_no_text t.1)) k,
    )

pub learns_text : (v : VarId) (term : Term) (before after : Known) → term ≡ Var v → HasBesides v before.texts.items after.texts.items → after.ints.items ≡ before.ints.items
    → Learns (TermTells term Text) before after
learns_text v term before after is has stays = λ x sort. by x sort
  where
    by : (x : VarId) (sort : Sort) → Knows after x sort ↔ (Knows before x sort ⊎ TermTells term Text x sort)
    by x Text = (
      λ k. ⊎_elim inl (λ e. inr (is ∙ ap Var e, refl)) ((has x).0 k),
      λ k. (has x).1 (⊎_elim inl (λ t. inr (variable_is v x (sym is ∙ t.0))) k),
    )
    by x Int = (
      λ k. inl (subst (λ (l : List VarId). Contains l x) stays k),
      λ k. ⊎_elim (λ h. subst (λ (l : List VarId). Contains l x) (sym stays) h) (λ t. absurd (text_is_no_int t.1)) k,
    )

-- ---- values

pub fits_num : (known : Known) (x : VarId) (value : Value) (n : ℤ) (there : Bool) → value ≡ values.Num n → (IsTrue there ↔ Contains known.texts.items x)
    → IsTrue (not there) ↔ FitsTold (Knows known) x value
fits_num known x value n there is same = subst (λ (v : Value). IsTrue (not there) ↔ FitsTold (Knows known) x v) (sym is) (by there same)
  where
    fine : (sort : Sort) → (Contains known.texts.items x → ⊥) → Knows known x sort → Int ≡ sort
    fine Int none told = refl
    fine Text none told = absurd (none told)

    by : (there : Bool) → (IsTrue there ↔ Contains known.texts.items x) → IsTrue (not there) ↔ FitsTold (Knows known) x (values.Num n)
    by true same = ((λ h. absurd cc), λ fits. let e : Int ≡ Text = fits Text (same.0 refl) in absurd cc)
    by false same = ((λ h. λ sort told. fine sort (λ there. let e : false ≡ true = same.1 there in absurd cc) told), λ fits. refl)

pub fits_text : (known : Known) (x : VarId) (value : Value) (t : List ℕ) (there : Bool) → value ≡ values.Text t → (IsTrue there ↔ Contains known.ints.items x)
    → IsTrue (not there) ↔ FitsTold (Knows known) x value
fits_text known x value t there is same = subst (λ (v : Value). IsTrue (not there) ↔ FitsTold (Knows known) x v) (sym is) (by there same)
  where
    fine : (sort : Sort) → (Contains known.ints.items x → ⊥) → Knows known x sort → Text ≡ sort
    fine Text none told = refl
    fine Int none told = absurd (none told)

    by : (there : Bool) → (IsTrue there ↔ Contains known.ints.items x) → IsTrue (not there) ↔ FitsTold (Knows known) x (values.Text t)
    by true same = ((λ h. absurd cc), λ fits. let e : Text ≡ Int = fits Int (same.0 refl) in absurd cc)
    by false same = ((λ h. λ sort told. fine sort (λ there. let e : false ≡ true = same.1 there in absurd cc) told), λ fits. refl)

no_columns : (terms : List Term) (x : VarId) (sort : Sort) → TermsTell terms [] x sort → ⊥
no_columns [] x sort told = told
no_columns (term ∷ terms) x sort told = told

-- a name without an entry tells nothing
pub no_entry : (entries : List NameEntry) (name : NameId) (terms : List Term) → slice_get entries name.0 ≡ None → (x : VarId) (sort : Sort) → AtomTells entries name terms x sort → ⊥
no_entry entries name terms none x sort told =
    no_columns terms x sort (subst (λ (o : Option NameEntry). TermsTell terms (entry_columns o) x sort) none told)
