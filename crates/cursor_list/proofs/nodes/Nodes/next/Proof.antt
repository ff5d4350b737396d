-- `next` reads a pointer of a node that the chain lends. Assumes `Logic`.
use Rattle.cursor_list.proofs.Vocabulary.{◌≡◌, refl, sym, ap, subst, ◌∙◌, ℕ, suc, ◌+◌, ◌<◌, ◌^◌, arith, List, [], ◌∷◌, ◌++◌, length-map, Ura, Fn, named, w64, inst_fn, Val, vint, vptr, SProp, ent}
use Rattle.cursor_list.proofs.Vocabulary.{never, fst∗, Lft, Share, ftrue, flft, Env, Calls, Loops, WpFn, Tables, Logic, sem, fact, tables, WpFn-mono, Item, ⋆, ‵, ◌⊛◌, at_ret, ◌$◌, ◌∵◌, !, qed, by}
use Rattle.cursor_list.proofs.Vocabulary.{move, keep, use1, drop, split, join, fsplit, fsplit3, fjoin, feq_l, suffices, done, whole, sub, agg, look, stop, fld, load, of_opd, and_then, no_more, first}
use Rattle.cursor_list.proofs.Vocabulary.{blocks, exec, returns, enter, alloc_all, pass_all, free_all, look_at, get, get_in, through, sets, sets_last, is, env, yes, no, owns, shared_of, hidden_shr}
use Rattle.cursor_list.proofs.Vocabulary.{ptr_val, in_a_block, ◌+ₚ◌, RawPtr, Bor, ShrRef, RefOf, usize, plain, nothing, hide, spared, Clauses, Ended, closing, on_entry, Meets, triple_of, entered}
use Rattle.cursor_list.proofs.Vocabulary.{run_framed, says, needs, Stays, stay_dropped, walk_of, ends_at, Goes-dropped, walk_Meets, after, Ptr-Good, word, word-Good, lent_at, Place, Link, links_of}
use Rattle.cursor_list.proofs.Vocabulary.{place_of, word_had, word_made, IsChained-had, link_at, place_of-is, next_is, Bx, args, pointer_in, pointer_out, link_lent_at}
use contract.Running.{tables_of}
use Rattle.cursor_list.specs.contracts.nodes.Nodes.next.Key.{name as #self}
use Rattle.cursor_list.proofs.Memory.{D, Nr, nodes_seen}
use Rattle.cursor_list.specs.contracts.nodes.Place as Pl
use Rattle.cursor_list.proofs.nodes.Nodes.next.Statement as stated
use Rattle.cursor_list.proofs.nodes.Nodes.next.Code as code

abbrev Asks : (E : Bx) → D E → Place → ℕ → Type 0
Asks E d at i = (i < d.len) × (at.ptr ≡ place_of (links_of d.blocks) i)

module _ (E : Bx) where
  abbrev function : Fn
  function = inst_fn (args E) code.function

  abbrev ended : Ended
  ended = record {
    signature = record {
      lifetimes = 1;
      outlives = [];
      params = RefOf (0 ∷ []) tt (plain (λ _. Nr E)) (λ _. tt) ∷ plain (λ _. Pl.the_row) ∷ plain (λ _. usize) ∷
          [];
      result = plain (λ _. Pl.the_row);
    };
    kept = (yes, (no, (no, tt)));
  }

  abbrev stayed : Stays ended.signature.params ended.kept
  stayed = (stay_dropped (RefOf (0 ∷ []) tt (plain (λ _. Nr E)) (λ _. tt)) yes, (stay_dropped (plain (λ _. Pl.the_row)) no, (stay_dropped (plain (λ _. usize)) no, tt)))

  abbrev spec : {M : Type 1} (𝓤 : Ura M) → Clauses 𝓤 ended
  spec 𝓤 κs a = record {
    ghost = Unit {0};
    requires = λ _. fact 𝓤 (Asks E a.0.now a.1.0 a.1.1.0);
    ensures = λ _ r _. fact 𝓤
        (a.1.1.0 + 1 < a.0.now.len → r.ptr ≡ place_of (links_of a.0.now.blocks) (a.1.1.0 + 1));
  }

module _ (E : Bx) {M : Type 1} {𝓤 : Ura M} (𝓛 : Logic 𝓤) (C : Calls 𝓤 𝓛.H) (Λ : Loops 𝓤 𝓛.H) (κ : Lft) (q : Share) (b o : ℕ) (d : D E) (at : Place) (i : ℕ) (ps us vs : List Val) where
  open 𝓛 use {H}

  abbrev self : Bor (D E)
  self = record { ref_ptr = (b, o); now = d }

  abbrev bound : (walk_of 𝓛 (ended E) (stayed E) (spec E 𝓤)).Ghost
  bound = (((κ, tt), (q, tt), tt, (self, (at, (i, tt))), (ps, (us, (vs, tt)))), tt)

  abbrev Post : Val → SProp 𝓤
  Post = (walk_of 𝓛 (ended E) (stayed E) (spec E 𝓤)).post bound

  abbrev Had : List (Item 𝓤)
  Had = ‵ (hidden_shr (Nr E) κ d b o) ∷ ‵ (flft κ q) ∷ []

  walk : Asks E d at i → ent 𝓤 (⋆ 𝓛 Had) (WpFn 𝓤 H C Λ (function E) (vptr b o ∷ word at.ptr ∷ vint w64 i ∷ []) Post)
  walk asked =
      let ok = d.ok in
      let linked_len = d.ok.1 ∙ sym (length-map d.blocks (λ n. n.0)) in
      let small = d.small in
      let within = asked.0 in
      let fits : i < 2 ^ 64 = omega arith in
      let n : Link = link_at (links_of d.blocks) i in
      let here : at.ptr ≡ n.0 = asked.1 ∙ place_of-is (links_of d.blocks) i in
      qed 𝓛 Had ∵ enter ! C Λ (function E) (vptr b o ∷ word at.ptr ∷ vint w64 i ∷ []) _ $
      alloc_all ! (λ l. pass_all ! refl ((tt, tt), (word-Good Pl.the_type.name at.ptr, ((tt, record { fits = fits }), tt))) $
      let En : Env 𝓤 H = env (function E).locals l in
      nodes_seen E ! d b o $
      let linked = IsChained-had d.head d.tail (links_of d.blocks) d.chained in
      move ! (4 ∷ []) $ use1 𝓛 (‵ (lent_at RawPtr (n.0 +ₚ 0) n.1 κ) ⊛ ‵ (lent_at RawPtr (n.0 +ₚ 8) n.2 κ)) (link_lent_at 𝓛 κ (links_of d.blocks) i (omega arith)) $ split ! $
      in_a_block ! n.0 (λ p. lent_at RawPtr (p +ₚ 0) n.1 κ) (fst∗ 𝓤 (never 𝓤) (sem 𝓛 (shared_of RawPtr n.1 0 0 κ)))
      (λ nb no e. fsplit ! $ drop ! $ hide ! $ move ! (0 ∷ 6 ∷ []) $ pointer_in ! tt n.1 nb (no + 0) (λ s.
      sets ! (is ! (of_opd ! (get_in ! (fld ! refl (stop !)) (sub ! 0 refl (whole !)))) (ap ptr_val (here ∙ e))) refl (tt, tt) $ sets ! (of_opd ! (get ! refl)) refl (tt, tt) $ first ! $ blocks ! $
      sets_last ! (of_opd ! (load ! (through ! refl (fld ! refl (stop !))) (look ! 0 refl))) refl (Ptr-Good n.1) $ exec ! C Λ En (after 3 (function E).body) (at_ret En Post) $
      sets ! (of_opd ! (get ! refl)) refl (Ptr-Good n.1) $ sets ! (of_opd ! (get ! refl)) refl (Ptr-Good n.1) $
      sets ! (agg ! (and_then ! (get ! refl) (no_more !))) refl (word-Good Pl.the_type.name n.1) $ pointer_out ! tt n.1 nb (no + 0) $
      returns ! (look_at ! 0 refl) $ free_all ! refl $ keep ! (0 ∷ []) $
      suffices ! _ (ends_at 𝓛 (ended E) (stayed E) (spec E 𝓤) bound (word n.1) (record { ptr = n.1 }) (tt, (tt, (tt, tt))) (tt, (tt, (tt, tt)))) $ says !
      (λ more. let on : suc i ≡ i + 1 = omega arith in next_is d.head (links_of d.blocks) i (omega arith) linked.0 ∙ sym (place_of-is (links_of d.blocks) (suc i)) ∙ ap
      (place_of (links_of d.blocks)) on) $
      word_made ! n.1 $ nothing ! $ nothing ! $ fjoin ! $ nothing ! $ fjoin ! $ nothing ! $ fjoin ! $ join ! $ nothing ! $ move ! (2 ∷ 0 ∷ []) $ join ! $ join ! $ done !)))

  entry : Asks E d at i → ent 𝓤 (on_entry 𝓛 (ended E).signature (κ, tt) (q, tt) (self, (at, (i, tt))) (ps, (us, (vs, tt)))) (WpFn 𝓤 H C Λ (function E) (ps ++ (us ++ (vs ++ []))) Post)
  entry asked =
      qed 𝓛 ((‵ (flft κ q) ⊛ ‵ ftrue) ∷ ‵ (owns (ShrRef (named 0) κ (Nr E) ∷ Pl.the_row ∷ usize ∷ []) (self, (at, (i, tt))) (ps, (us, (vs, tt)))) ∷ []) ∵ split ! $
      move ! (2 ∷ []) $ fsplit3 ! $ fsplit ! $ feq_l ! (λ e.
      move ! (1 ∷ []) $ word_had ! at.ptr us (λ f. move ! (1 ∷ []) $ fsplit ! $ fsplit ! $ feq_l ! (λ g. keep ! (2 ∷ 3 ∷ []) $
      by ! (subst (λ (ws : List Val × List Val × List Val). ent 𝓤 (⋆ 𝓛 Had) (WpFn 𝓤 H C Λ (function E) (ws.0 ++ (ws.1 ++ (ws.2 ++ []))) Post)) (λ j. (sym e j, sym f j, sym g j)) (walk asked)))))

meets : (E : Bx) {M : Type 1} {𝓤 : Ura M} (𝓛 : Logic 𝓤) (𝓣 : Tables 𝓤 𝓛.H)
    → Meets 𝓛 (ended E).signature (WpFn 𝓤 𝓛.H 𝓣.C 𝓣.Λ (function E)) (closing 𝓛 (ended E) (spec E 𝓤))
meets E {𝓤 = 𝓤} 𝓛 𝓣 =
    walk_Meets 𝓛 (ended E) (stayed E) (
      Goes-dropped 𝓛 1 (RefOf (0 ∷ []) tt (plain (λ _. Nr E)) (λ _. tt)) yes (λ κs x f. refl),
      (Goes-dropped 𝓛 1 (plain (λ _. Pl.the_row)) no (λ κs x f. refl), (Goes-dropped 𝓛 1 (plain (λ _. usize)) no (λ κs x f. refl), tt)),
    ) (spec E 𝓤)
    (WpFn 𝓤 𝓛.H 𝓣.C 𝓣.Λ (function E)) (WpFn-mono 𝓤 𝓛.H 𝓛.laws 𝓣 (function E))
    (λ z. let a = z.0.3 in let vss = z.0.4 in needs 𝓤 (Asks E a.0.now a.1.0 a.1.1.0) _ (entry E 𝓛 𝓣.C 𝓣.Λ z.0.0.0 z.0.1.0 a.0.ref_ptr.0 a.0.ref_ptr.1 a.0.now a.1.0 a.1.1.0 vss.0 vss.1.0 vss.1.1.0))

pub next_spec : {M : Type 1} → stated.statement M
unfolding tables_of
next_spec 𝓤 𝓛 𝓜 𝓡 wired Y Z L LZ g d dd met md y =
    let E : Bx = record { row = Y; laws = L; al = record { row = Z; laws = LZ; g = g; d = d; drops = dd } } in
    let A = 𝓛.A in
    let 𝓣 : Tables 𝓤 𝓛.H = tables_of 𝓤 𝓛.H 𝓜 (tables 𝓤 𝓛.H 𝓜 𝓡 𝓡.env) in
    spared 𝓛 (ended E).signature (𝓡.run (𝓡.env (#self (args E)))) (run_framed 𝓤 𝓛.H 𝓜 𝓡 (𝓡.env (#self (args E)))) 2 (Y.lives, (Z.lives, tt)) (closing 𝓛 (ended E) (spec E 𝓤))
    (entered 𝓤 𝓛.H (triple_of 𝓛 (ended E).signature (closing 𝓛 (ended E) (spec E 𝓤))) 𝓣.C 𝓣.Λ (#self (args E)) (function E) (code.unfolded 𝓤 𝓛.H 𝓜 𝓡 wired (Y, (Z, tt)) d dd) (meets E 𝓛 𝓣))
    ((y.0.0, y.0.1, tt, y.0.3, y.0.4), y.1)
