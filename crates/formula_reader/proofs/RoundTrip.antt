-- The canonical text of a rule of a policy is read as that rule but for its places.
use Rattle.formula_reader.proofs.Vocabulary.{◌≡◌, ℕ, ◌<◌, zero, suc, List, [], ◌∷◌, Option, None, Some, Result, Ok, Err, map, length, slice_index_or, refl, sym, ap, subst, ◌∙◌, arith, AllByRecursion}
use Rattle.formula_reader.proofs.Vocabulary.{option_map, option_or, PrintedIsCut, placed_from, tokens, PlacedLexeme, lexemes, lexeme_of_token, IsRule, IsPolicyText, AreLow, HasLexemeLevels}
use Rattle.formula_reader.proofs.Vocabulary.{IsWritableRule, kinds_written, rule_written, TextsAreWritable, WrittenHasLevels, WrittenIsRead, SyntaxRefusal, NameEntry, rule_text, rule_pieces}
use Rattle.formula_reader.proofs.Vocabulary.{bare_refusal, bare_resolved, FollowsFirstPass, Rule, rule_in, rules_in, with_both, IsOfText, IsReadAs, text_levels, policy_refusal, rule_refusal}
use Rattle.formula_reader.proofs.Vocabulary.{rule_back, plain_rule, PolicyRefusal, SpellsRules, IsPolicyAnswer}
use Rattle.formula_reader.proofs.OptionLaws.{both_from, or_none}
use Rattle.formula_reader.proofs.WrittenAlike.{rule_alike, writable_plain}
use Rattle.formula_reader.proofs.TokensApart.{rule-apart}
use Rattle.formula_reader.proofs.PlaceBlindness.{rule-blind, rule_refusal-blind}
use Rattle.formula_reader.proofs.PrintedPieces.{printed-rule}
use Rattle.formula_reader.proofs.PieceLexemes.{placed_kinds, rule_is_text, rule_kinds}
use Rattle.formula_reader.proofs.WrittenBack.{rule_written as rule_is_written}
use Rattle.policy_syntax.specs.meaning.Refusals as first_pass
use Rattle.policy_syntax.specs.meaning.Trees as syntax

-- the rule of the syntax tree that the rule came from
pub record Source (entries : List NameEntry) (rule : Rule) : Type 0 where
  pub source : syntax.PolicyRule
  pub found : rule_in entries source ≡ Some rule
  pub clear : rule_refusal entries source ≡ None
  pub limits : IsRule source
  pub writable : IsWritableRule source

source_at : (entries : List NameEntry) (sources : List syntax.PolicyRule) (rules : List Rule) (rule : Rule) (k : ℕ) → k < length rules → slice_index_or rules k rule ≡ rule
    → policy_refusal entries sources ≡ None → rules_in entries sources ≡ Some rules → AllByRecursion IsRule sources → AllByRecursion IsWritableRule sources → Source entries rule
source_at entries [] rules rule k lt at clear found limits writable =
    let none : [] ≡ rules = cc in
    let less : k < 0 = subst (λ (rs : List Rule). k < length rs) (sym none) lt in absurd (omega arith)
source_at entries (source ∷ sources) rules rule k lt at clear found limits writable =
    let both = both_from ◌∷◌ (rule_in entries source) (rules_in entries sources) rules found in
    let none = or_none (rule_refusal entries source) (policy_refusal entries sources) clear in
    by both.x both.y k (subst (λ (rs : List Rule). k < length rs) (sym both.made) lt) (ap (λ (rs : List Rule). slice_index_or rs k rule) both.made ∙ at)
    (λ j less there. source_at entries sources both.y rule j less there none.1 both.right limits.1 writable.1)
    (λ e. record { source = source; found = both.left ∙ ap Some e; clear = none.0; limits = limits.0; writable = writable.0 })
  where
    by : (x : Rule) (xs : List Rule) (j : ℕ) → j < length (x ∷ xs) → slice_index_or (x ∷ xs) j rule ≡ rule
        → ((i : ℕ) → i < length xs → slice_index_or xs i rule ≡ rule → Source entries rule) → (x ≡ rule → Source entries rule) → Source entries rule
    by x xs zero less there later here = here there
    by x xs (suc j) less there later here = later j (omega arith) there

-- the rules of the syntax tree that rules came from
pub policy_of : (entries : List NameEntry) (rules : List Rule) (passed : Result (List syntax.PolicyRule) SyntaxRefusal) → FollowsFirstPass entries passed (Ok rules)
    → (sources : List syntax.PolicyRule) × (passed ≡ Ok sources) × (policy_refusal entries sources ≡ None) × (rules_in entries sources ≡ Some rules)
policy_of entries rules (Ok sources) h = (sources, refl, h.0, h.1)
policy_of entries rules (Err refusal) h = absurd cc

pub text_of : (bytes : List ℕ) (passed : Result (List syntax.PolicyRule) SyntaxRefusal) (sources : List syntax.PolicyRule) → passed ≡ Ok sources
    → first_pass.IsSyntaxAnswer bytes passed → IsPolicyText bytes sources
text_of bytes passed sources e is = subst (first_pass.IsSyntaxAnswer bytes) e is

-- a text that spells rules is answered by these
pub answer_of_rules : (entries : List NameEntry) (bytes : List ℕ) (rules : List Rule) → SpellsRules entries bytes rules
    → IsPolicyAnswer entries bytes (Ok rules)
answer_of_rules entries bytes rules h = record { passed = Ok h.trees; read = h.text; follows = (h.unrefused, h.resolved) }

-- and a text that is answered by rules spells these
pub rules_of_answer : (entries : List NameEntry) (bytes : List ℕ) (rules : List Rule)
    → IsPolicyAnswer entries bytes (Ok rules) → SpellsRules entries bytes rules
rules_of_answer entries bytes rules a =
    let policy = policy_of entries rules a.passed a.follows in
    record {
      trees = policy.0;
      text = text_of bytes a.passed policy.0 policy.1 a.read;
      unrefused = policy.2;
      resolved = policy.3;
    }

pub source_of : TextsAreWritable → (entries : List NameEntry) (rule : Rule) → IsOfText entries rule → Source entries rule
source_of texts entries rule h =
    let answer = h.read in
    let policy = policy_of entries h.rules answer.passed answer.follows in
    let text : IsPolicyText h.bytes policy.0 = text_of h.bytes answer.passed policy.0 policy.1 answer.read in
    source_at entries policy.0 h.rules rule h.there.0 h.there.1 h.there.2 policy.2 policy.3 text.within.each (texts h.bytes policy.0 text)

-- what is asked of the source is so of the rule written back
back_is : (entries : List NameEntry) (rule : Rule) (s : Source entries rule) → rule_back entries rule ≡ plain_rule s.source
back_is entries rule s = rule_is_written entries s.source rule s.found

back_writable : (entries : List NameEntry) (rule : Rule) → Source entries rule → IsWritableRule (rule_back entries rule)
back_writable entries rule s =
    let w : IsWritableRule (plain_rule s.source) = record { name = s.writable.name; formula = writable_plain s.source.formula s.writable.formula } in
    subst IsWritableRule (sym (back_is entries rule s)) w

-- the lexemes of the canonical text are those written
text_kinds : PrintedIsCut → (entries : List NameEntry) (rule : Rule) → Source entries rule
    → map (λ (p : PlacedLexeme). p.1) (lexemes (rule_text entries rule)) ≡ kinds_written (text_levels entries rule)
text_kinds cut entries rule s =
    let w = back_writable entries rule s in
    let pieces = rule_pieces entries rule in
    let is_cut : tokens (rule_text entries rule) ≡ placed_from 0 pieces = sym (ap tokens (printed-rule entries rule)) ∙ cut 0 pieces (rule-apart entries rule (rule_is_text entries rule w)) in
    ap (λ placed. map (λ (p : PlacedLexeme). p.1) (map (λ t. (t.0, lexeme_of_token t.1)) placed)) is_cut ∙ placed_kinds 0 pieces ∙ rule_kinds entries rule w

some_bare : (x : Option Rule) (rule : Rule) → option_map bare_resolved x ≡ Some (bare_resolved rule) → (again : Rule) × (x ≡ Some again) × (bare_resolved again ≡ bare_resolved rule)
some_bare None rule e = absurd cc
some_bare (Some again) rule e = (again, refl, cc)

none_bare : (x : Option PolicyRefusal) → option_map bare_refusal x ≡ None → x ≡ None
none_bare None e = refl
none_bare (Some refusal) e = absurd cc

-- the lexemes of the canonical text stand at the levels written
pub text_has_levels : PrintedIsCut → WrittenHasLevels → (entries : List NameEntry) (rule : Rule) → Source entries rule → HasLexemeLevels (lexemes (rule_text entries rule)) (text_levels entries rule)
text_has_levels cut written entries rule s =
    let levels : text_levels entries rule ≡ rule_written s.source = ap rule_written (back_is entries rule s) ∙ rule_alike s.source in
    subst (HasLexemeLevels (lexemes (rule_text entries rule))) (sym levels)
    (written s.source (lexemes (rule_text entries rule)) s.limits s.writable (text_kinds cut entries rule s ∙ ap kinds_written levels))

pub read_back : PrintedIsCut → WrittenIsRead → (entries : List NameEntry) (rule : Rule) → Source entries rule → AreLow (text_levels entries rule) → IsReadAs entries (rule_text entries rule) rule
read_back cut written entries rule s low =
    let levels : text_levels entries rule ≡ rule_written s.source = ap rule_written (back_is entries rule s) ∙ rule_alike s.source in
    let kinds : map (λ (p : PlacedLexeme). p.1) (lexemes (rule_text entries rule)) ≡ kinds_written (rule_written s.source) = text_kinds cut entries rule s ∙ ap kinds_written levels in
    let r = written s.source (lexemes (rule_text entries rule)) s.limits s.writable (subst AreLow levels low) kinds in
    let there : option_map bare_resolved (rule_in entries r.again) ≡ Some (bare_resolved rule) =
    sym (rule-blind entries r.again) ∙ ap (rule_in entries) r.same ∙ rule-blind entries s.source ∙ ap (option_map bare_resolved) s.found in
    let clear : option_map bare_refusal (rule_refusal entries r.again) ≡ None =
    sym (rule_refusal-blind entries r.again) ∙ ap (rule_refusal entries) r.same ∙ rule_refusal-blind entries s.source ∙ ap (option_map bare_refusal) s.clear in
    let found = some_bare (rule_in entries r.again) rule there in
    let none : rule_refusal entries r.again ≡ None = none_bare (rule_refusal entries r.again) clear in
    record {
      again = found.0;
      answer = record {
        passed = Ok (r.again ∷ []);
        read = record { read = r.read; within = r.within };
        follows = (ap (λ (o : Option PolicyRefusal). option_or o None) none, ap (λ (o : Option Rule). with_both ◌∷◌ o (Some [])) found.1);
      };
      same = found.2;
    }
