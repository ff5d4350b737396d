-- `unlink` moves the element and the handle out of a node, and those beside it point past it. Assumes `Logic`.
use Rattle.cursor_list.proofs.Vocabulary.{◌≡◌, refl, sym, ap, subst, ◌∙◌, ℕ, ◌+◌, ◌-◌, ◌≤◌, ◌<◌, ◌^◌, arith, List, [], ◌∷◌, ◌++◌, append_assoc, map-append, length, length-append, take, Ura, Fn, named}
use Rattle.cursor_list.proofs.Vocabulary.{w64, inst_fn, Val, vint, vptr, SProp, ent, sep, Lft, GName, Share, ftrue, flft, fobs, fbor, Env, Calls, Loops, WpFn, Tables, Logic, sem, fact, tables}
use Rattle.cursor_list.proofs.Vocabulary.{WpFn-mono, Item, ⋆, ‵, ◌⊛◌, at_ret, ◌$◌, ◌∵◌, !, qed, by, move, keep, use1, use2, split, join, rewrite, fsplit, fsplit3, fjoin, fjoin3, feq_i, feq_l}
use Rattle.cursor_list.proofs.Vocabulary.{suffices, frame, done, whole, sub, agg, look_in, store_in, look, store, stop, fld, load, lit, of_opd, bin, addr, and_then, no_more, assigns, first, blocks}
use Rattle.cursor_list.proofs.Vocabulary.{exec, returns, enter, alloc_all, pass_all, free_all, look_at, get, get_in, through, sets, sets_last, is, env, Body as Borrowed, yes, no, RattleType, owns}
use Rattle.cursor_list.proofs.Vocabulary.{mem, Ptr, block_ptr, ptr_val, MutBor, MutRef, RefMutOf, usize, plain, nothing, spared, Clauses, Ended, closing, on_entry, Meets, triple_of, entered}
use Rattle.cursor_list.proofs.Vocabulary.{run_framed, needs, Stays, stay_dropped, stay_ref, walk_of, ends_at, Goes-dropped, Goes-ref, walk_Meets, after, word, word-Good, Bx, args, X, τ, R, P, Vacant}
use Rattle.cursor_list.proofs.Vocabulary.{vacant_val, vacant_ty, vacant_typed, Vacant-made, pair_val, pair_Typed, pair_of, Tuple, word_had, cut_at, Place, Link, links_of, place_of, IsChained}
use Rattle.cursor_list.proofs.Vocabulary.{IsChained-had, uncons, Hd, Held, One, cons_out, cons_in, append_in, one_opens, one_closes, node_unmade, block_back, KeepsPlaces}
use lib.ListN.{drop}
use contract.Running.{tables_of}
use Rattle.cursor_list.specs.contracts.nodes.Nodes.unlink.Key.{name as #self}
use Rattle.cursor_list.proofs.Kept.{Around, around, here_at, keeps_through}
use Rattle.cursor_list.proofs.Chained.{IsChained-without}
use Rattle.cursor_list.proofs.Memory.{append_out, says_both, D, Nr, nodes_opens, nodes_closes}
use Rattle.cursor_list.specs.contracts.nodes.Place as Pl
use Rattle.cursor_list.specs.contracts.nodes.Node as Block
use Rattle.cursor_list.proofs.nodes.Nodes.unlink.Statement as stated
use Rattle.cursor_list.proofs.nodes.Nodes.unlink.Code as code

module _ (E : Bx) where
  abbrev function : Fn
  function = inst_fn (args E) code.function

  abbrev Node : RattleType
  Node = Block.the_row (R E) (P E)

  abbrev Room : RattleType
  Room = Vacant E.al Node

  abbrev Out : RattleType
  Out = Tuple (R E ∷ Room ∷ [])

  abbrev ended : Ended
  ended = record {
    signature = record {
      lifetimes = 1;
      outlives = [];
      params = RefMutOf (0 ∷ []) tt (plain (λ _. Nr E)) (λ _. tt) ∷ plain (λ _. Pl.the_row) ∷ plain (λ _. usize)
          ∷ [];
      result = plain (λ _. Out);
    };
    kept = (yes, (no, (no, tt)));
  }

  abbrev stayed : Stays ended.signature.params ended.kept
  stayed = (stay_ref (0 ∷ []) tt (plain (λ _. Nr E)), (stay_dropped (plain (λ _. Pl.the_row)) no, (stay_dropped (plain (λ _. usize)) no, tt)))

  abbrev Asks : D E → Place → ℕ → Type 0
  Asks d at i = (0 < i) × (i + 1 < d.len) × (at.ptr ≡ place_of (links_of d.blocks) i)

  abbrev Gives : D E → ℕ → X E → D E → Type 0
  Gives d i x e = d.items ≡ take i e.items ++ x ∷ drop i e.items

  abbrev Keeps : D E → ℕ → D E → Type 0
  Keeps d i e = KeepsPlaces i (links_of d.blocks) (links_of e.blocks)

  abbrev spec : {M : Type 1} {𝓤 : Ura M} (𝓛 : Logic 𝓤) → Clauses 𝓤 ended
  spec {𝓤 = 𝓤} 𝓛 κs a = record {
    ghost = Unit {0};
    requires = λ _. fact 𝓤 (Asks a.0.now a.1.0 a.1.1.0);
    ensures = λ _ r w. sep 𝓤 (fact 𝓤 (Gives a.0.now a.1.1.0 r.0 w.0.now)) (fact 𝓤 (Keeps a.0.now a.1.1.0 w.0.now));
  }

module _ (E : Bx) {M : Type 1} {𝓤 : Ura M} (𝓛 : Logic 𝓤) (C : Calls 𝓤 𝓛.H) (Λ : Loops 𝓤 𝓛.H) (κ : Lft) (q : Share) (rb ro : ℕ) (γ : GName) (d : D E) (at : Place) (i : ℕ) (ps us ks : List Val) where
  open 𝓛 use {H, A}

  abbrev self : MutBor (D E)
  self = record { ref_ptr = (rb, ro); ghost_name = γ; now = d }

  abbrev bound : (walk_of 𝓛 (ended E) (stayed E) (spec E 𝓛)).Ghost
  bound = (((κ, tt), (q, tt), tt, (self, (at, (i, tt))), (ps, (us, (ks, tt)))), tt)

  abbrev Post : Val → SProp 𝓤
  Post = (walk_of 𝓛 (ended E) (stayed E) (spec E 𝓛)).post bound

  exits : ps ≡ vptr rb ro ∷ [] → (r : (Out E).Denot) (v : Val) (new : D E) → Gives E d i r.0 new → Keeps E d i new
      → ent 𝓤 (sep 𝓤 (A.obs γ ((Nr E).coded.code new)) (sep 𝓤 (A.bor κ (Borrowed (mem (Nr E)) rb ro γ)) (sep 𝓤 (A.lft κ q) (sem 𝓛 ((Out E).own_val r (v ∷ [])))))) (Post v)
  exits passed r v new e kept =
      qed 𝓛 (‵ (fobs γ ((Nr E).coded.code new)) ∷ ‵ (fbor κ (Borrowed (mem (Nr E)) rb ro γ)) ∷ ‵ (flft κ q) ∷ ‵ ((Out E).own_val r (v ∷ [])) ∷ []) ∵
      suffices ! _ (ends_at 𝓛 (ended E) (stayed E) (spec E 𝓛) bound v r (new, (tt, (tt, tt))) (tt, (tt, (tt, tt)))) $ says_both ! e kept $
      nothing ! $ move ! (3 ∷ 0 ∷ []) $ join ! $ frame ! $ feq_i ! (List Val) ps (vptr rb ro ∷ []) passed $ fjoin3 ! $ nothing ! $ nothing ! $ fjoin ! $ nothing ! $ fjoin ! $ move !
      (1 ∷ 0 ∷ []) $ fjoin ! $ done !

  abbrev Had : List (Item 𝓤)
  Had = ‵ (fobs γ ((Nr E).coded.code d)) ∷ ‵ (fbor κ (Borrowed (mem (Nr E)) rb ro γ)) ∷ ‵ (flft κ q) ∷ []

  walk : ps ≡ vptr rb ro ∷ [] → Asks E d at i → ent 𝓤 (⋆ 𝓛 Had) (WpFn 𝓤 H C Λ (function E) (vptr rb ro ∷ word at.ptr ∷ vint w64 i ∷ []) Post)
  walk passed asked =
      let ok = d.ok in
      let small = d.small in
      let some = asked.0 in
      let within = asked.1 in
      let counts : i < 2 ^ 64 = omega arith in
      let fits : d.len < 2 ^ 64 = omega arith in
      let less : d.len - 1 < 2 ^ 64 = omega arith in
      let least : 1 ≤ d.len = omega arith in
      let bs : Around d.blocks i = around d.blocks i some (omega arith) in
      let xs : Around d.items i = around d.items i some (omega arith) in
      let long = ap length bs.is ∙ length-append bs.front (bs.left ∷ bs.here ∷ bs.back) in
      let many = ap length xs.is ∙ length-append xs.front (xs.left ∷ xs.here ∷ xs.back) in
      let far = bs.far in
      let far_too = xs.far in
      let behind = uncons bs.back (omega arith) in
      let others = uncons xs.back (omega arith) in
      let ns = bs.front in
      let l = bs.left in
      let m = bs.here in
      let n = behind.0 in
      let ms = behind.1 in
      let u = xs.left in
      let x = xs.here in
      let y = others.0 in
      let ys = others.1 in
      let last = ap length behind.2 in
      let last_too = ap length others.2 in
      let alike : length ns ≡ length xs.front = omega arith in
      let all : d.blocks ≡ ns ++ l ∷ m ∷ n ∷ ms = bs.is ∙ ap (λ ks. ns ++ l ∷ m ∷ ks) behind.2 in
      let every : d.items ≡ xs.front ++ u ∷ x ∷ y ∷ ys = xs.is ∙ ap (λ zs. xs.front ++ u ∷ x ∷ zs) others.2 in
      let here : at.ptr ≡ m.0.0 = asked.2 ∙ ap (λ ks. place_of (links_of ks) i) all ∙ here_at l m (n ∷ ms) ns i far in
      let linked : IsChained d.head d.tail (links_of ns ++ l.0 ∷ m.0 ∷ n.0 ∷ links_of ms) = subst (IsChained d.head d.tail)
      (ap links_of all ∙ map-append (λ k. k.0) ns (l ∷ m ∷ n ∷ ms)) (IsChained-had _ _ _ d.chained) in
      qed 𝓛 Had ∵ enter ! C Λ (function E) (vptr rb ro ∷ word at.ptr ∷ vint w64 i ∷ []) _ $ alloc_all !
      (λ ls. pass_all ! refl ((tt, tt), (word-Good Pl.the_type.name at.ptr, ((tt, record { fits = counts }), tt))) $
      let En : Env 𝓤 H = env (function E).locals ls in
      nodes_opens E ! tt d rb ro $
      rewrite ! 0 (λ (ks : List (Link × Hd E)). ‵ (Held E ks d.items)) all refl $ rewrite ! 0 (λ (zs : List (X E)). ‵ (Held E (ns ++ l ∷ m ∷ n ∷ ms) zs)) every refl $
      use1 𝓛 (‵ (Held E ns xs.front) ⊛ ‵ (Held E (l ∷ m ∷ n ∷ ms) (u ∷ x ∷ y ∷ ys))) (append_out E 𝓛 ns (l ∷ m ∷ n ∷ ms) xs.front (u ∷ x ∷ y ∷ ys) alike) $ split ! $ move ! (1 ∷ []) $
      use1 𝓛 (‵ (One E l u) ⊛ ‵ (Held E (m ∷ n ∷ ms) (x ∷ y ∷ ys))) (cons_out E 𝓛 l (m ∷ n ∷ ms) u (x ∷ y ∷ ys)) $ split ! $ move ! (1 ∷ []) $
      use1 𝓛 (‵ (One E m x) ⊛ ‵ (Held E (n ∷ ms) (y ∷ ys))) (cons_out E 𝓛 m (n ∷ ms) x (y ∷ ys)) $ split ! $ move ! (1 ∷ []) $
      use1 𝓛 (‵ (One E n y) ⊛ ‵ (Held E ms ys)) (cons_out E 𝓛 n ms y ys) $ split ! $
      one_opens E ! n.0 n.1 y (λ nb no ne. move ! (6 ∷ []) $ one_opens E ! l.0 l.1 u (λ lb lo le. move ! (9 ∷ []) $ one_opens E ! m.0 m.1 x
      (λ b o me. node_unmade E ! b o m.0.1 m.0.2 m.1 x (λ v hv good fa.
      let a : Ptr = block_ptr lb lo in
      let c : Ptr = block_ptr nb no in
      let without = IsChained-without d.head d.tail (links_of ns) (a, l.0.1, l.0.2) m.0 (c, n.0.1, n.0.2) (links_of ms)
      (subst (λ (z : Ptr × Ptr). IsChained d.head d.tail (links_of ns ++ (z.0, l.0.1, l.0.2) ∷ m.0 ∷ (z.1, n.0.1, n.0.2) ∷ links_of ms)) (λ j. (le j, ne j)) linked) in
      let was : Link × Hd E = ((a, c, l.0.2), l.1) in
      let on : Link × Hd E = ((c, n.0.1, a), n.1) in
      let left = ns ++ was ∷ on ∷ ms in
      let kept_items = xs.front ++ u ∷ y ∷ ys in
      let still = length-append ns (was ∷ on ∷ ms) in
      let same = length-append xs.front (u ∷ y ∷ ys) in
      let new : D E = record {
        head = d.head;
        tail = d.tail;
        len = d.len - 1;
        items = kept_items;
        blocks = left;
        ok = (omega arith, omega arith);
        small = omega arith;
        chained = ∣ subst (IsChained d.head d.tail) (sym (map-append (λ k. k.0) ns (was ∷ on ∷ ms))) without.0 ∣₁;
      } in
      let kept : Keeps E d i new = subst (λ (ks : List (Link × Hd E)). KeepsPlaces i (links_of ks) (links_of left)) (sym all)
      (keeps_through ns l was (m ∷ n ∷ ms) (on ∷ ms) i (sym le) (omega arith)) in
      let cut = cut_at (xs.front ++ u ∷ []) (y ∷ ys) kept_items i (append_assoc xs.front (u ∷ []) (y ∷ ys)) (length-append xs.front (u ∷ []) ∙ omega arith) in
      let gives : Gives E d i x new = every ∙ sym (append_assoc xs.front (u ∷ []) (x ∷ y ∷ ys)) ∙ (λ j. cut.0 j ++ x ∷ cut.1 j) in
      let room = vacant_typed E.al (Node E) hv b o fa in
      let both = pair_Typed (τ E) (vacant_ty E.al (Node E)) v (vacant_val hv b o) good room in
      let made : (Room E).Denot = record { ptr = block_ptr b o; alloc = m.1 } in
      -- [the node, in eight; the one before, in four; the one after, in four; those after; those in front; the words;
      -- the open borrow; obs; auth]
      sets ! (is ! (of_opd ! (get_in ! (fld ! refl (stop !)) (sub ! 0 refl (whole !)))) (ap ptr_val (here ∙ me))) refl (tt, tt) $
      sets ! (of_opd ! (load ! (through ! refl (fld ! refl (stop !))) (look_in ! 18 (sub ! 2 refl (whole !))))) refl (tt, record { fits = fits }) $ sets !
      (bin ! (get ! refl) (lit ! tt) least) refl (tt, record { fits = less }) $
      assigns ! (of_opd ! (get ! refl)) (through ! refl (fld ! refl (stop !))) (store_in ! 18 (sub ! 2 refl (whole !)) (tt, record { fits = less })) $ first ! $ blocks ! $
      sets ! (is ! (of_opd ! (load ! (through ! refl (fld ! refl (stop !))) (look ! 0 refl))) (ap ptr_val without.1)) refl (tt, tt) $ sets ! (of_opd ! (get ! refl)) refl (tt, tt) $
      sets ! (is ! (of_opd ! (load ! (through ! refl (fld ! refl (stop !))) (look ! 1 refl))) (ap ptr_val without.2)) refl (tt, tt) $ sets ! (of_opd ! (get ! refl)) refl (tt, tt) $
      assigns ! (of_opd ! (get ! refl)) (through ! refl (fld ! refl (stop !))) (store ! 9 refl (tt, tt)) $
      assigns ! (of_opd ! (get ! refl)) (through ! refl (fld ! refl (stop !))) (store ! 14 refl (tt, tt)) $
      sets ! (addr ! (through ! refl (fld ! refl (stop !)))) refl (tt, tt) $ sets ! (of_opd ! (load ! (through ! refl (stop !)) (look ! 2 refl))) refl good $
      sets ! (addr ! (through ! refl (fld ! refl (stop !)))) refl (tt, tt) $ sets ! (of_opd ! (load ! (through ! refl (stop !)) (look ! 3 refl))) refl fa $
      sets ! (of_opd ! (get ! refl)) refl good $ sets ! (of_opd ! (get ! refl)) refl fa $ sets ! (agg ! (and_then ! (get ! refl) (and_then ! (get ! refl) (no_more !)))) refl room $
      sets_last ! (agg ! (and_then ! (get ! refl) (and_then ! (get ! refl) (no_more !)))) refl both $ exec ! C Λ En (after 5 (function E).body) (at_ret En Post) $ sets !
      (of_opd ! (get ! refl)) refl both $
      block_back E ! b o m.0.1 m.0.2 v hv $ Vacant-made E.al (Node E) ! m.1 b o $ move ! (1 ∷ 0 ∷ []) $
      use2 𝓛 (‵ ((Out E).own_val (x, made) (pair_val v (vacant_val hv b o) ∷ []))) (pair_of 𝓛 (R E) (Room E) x made v (vacant_val hv b o)) $
      move ! (1 ∷ 2 ∷ 3 ∷ 4 ∷ []) $ one_closes E ! lb lo c l.0.2 l.1 u $ move ! (2 ∷ 3 ∷ 4 ∷ 5 ∷ []) $ one_closes E ! nb no n.0.1 a n.1 y $ move ! (0 ∷ 3 ∷ []) $
      use2 𝓛 (‵ (Held E (on ∷ ms) (y ∷ ys))) (cons_in E 𝓛 on ms y ys) $ move ! (1 ∷ 0 ∷ []) $
      use2 𝓛 (‵ (Held E (was ∷ on ∷ ms) (u ∷ y ∷ ys))) (cons_in E 𝓛 was (on ∷ ms) u (y ∷ ys)) $ move ! (2 ∷ 0 ∷ []) $
      use2 𝓛 (‵ (Held E new.blocks new.items)) (append_in E 𝓛 ns (was ∷ on ∷ ms) xs.front (u ∷ y ∷ ys) alike) $ move ! (0 ∷ 2 ∷ 3 ∷ 4 ∷ 5 ∷ []) $ nodes_closes E ! tt new rb ro $
      returns ! (look_at ! 0 refl) $ free_all ! refl $ keep ! (0 ∷ 1 ∷ 2 ∷ 3 ∷ []) $ by ! (exits passed (x, made) (pair_val v (vacant_val hv b o)) new gives kept))))))

  entry : Asks E d at i → ent 𝓤 (on_entry 𝓛 (ended E).signature (κ, tt) (q, tt) (self, (at, (i, tt))) (ps, (us, (ks, tt)))) (WpFn 𝓤 H C Λ (function E) (ps ++ (us ++ (ks ++ []))) Post)
  entry asked =
      qed 𝓛 ((‵ (flft κ q) ⊛ ‵ ftrue) ∷ ‵ (owns (MutRef (named 0) κ (Nr E) ∷ Pl.the_row ∷ usize ∷ []) (self, (at, (i, tt))) (ps, (us, (ks, tt)))) ∷ []) ∵ split ! $
      move ! (2 ∷ []) $ fsplit3 ! $ fsplit3 ! $ feq_l ! (λ e.
      move ! (2 ∷ []) $ word_had ! at.ptr us (λ f. move ! (2 ∷ []) $ fsplit ! $ fsplit ! $ feq_l ! (λ g. keep ! (2 ∷ 3 ∷ 4 ∷ []) $
      by ! (subst (λ (ws : List Val × List Val × List Val). ent 𝓤 (⋆ 𝓛 Had) (WpFn 𝓤 H C Λ (function E) (ws.0 ++ (ws.1 ++ (ws.2 ++ []))) Post)) (λ j. (sym e j, sym f j, sym g j)) (walk e asked)))))

meets : (E : Bx) {M : Type 1} {𝓤 : Ura M} (𝓛 : Logic 𝓤) (𝓣 : Tables 𝓤 𝓛.H)
    → Meets 𝓛 (ended E).signature (WpFn 𝓤 𝓛.H 𝓣.C 𝓣.Λ (function E)) (closing 𝓛 (ended E) (spec E 𝓛))
meets E {𝓤 = 𝓤} 𝓛 𝓣 =
    walk_Meets 𝓛 (ended E) (stayed E) (
      Goes-ref 𝓛 1 0 tt (plain (λ _. Nr E)),
      (
        Goes-dropped 𝓛 1 (plain (λ _. Pl.the_row)) no (λ κs x f. refl),
        (Goes-dropped 𝓛 1 (plain (λ _. usize)) no (λ κs x f. refl), tt),
      ),
    ) (spec E 𝓛) (WpFn 𝓤 𝓛.H 𝓣.C 𝓣.Λ (function E))
    (WpFn-mono 𝓤 𝓛.H 𝓛.laws 𝓣 (function E))
    (λ z. let a = z.0.3 in let vss = z.0.4 in needs 𝓤 (Asks E a.0.now a.1.0 a.1.1.0) _
    (entry E 𝓛 𝓣.C 𝓣.Λ z.0.0.0 z.0.1.0 a.0.ref_ptr.0 a.0.ref_ptr.1 a.0.ghost_name a.0.now a.1.0 a.1.1.0 vss.0 vss.1.0 vss.1.1.0))

pub unlink_spec : {M : Type 1} → stated.statement M
unfolding tables_of
unlink_spec 𝓤 𝓛 𝓜 𝓡 wired Y Z L LZ g d dd met md y =
    let E : Bx = record { row = Y; laws = L; al = record { row = Z; laws = LZ; g = g; d = d; drops = dd } } in
    let A = 𝓛.A in
    let 𝓣 : Tables 𝓤 𝓛.H = tables_of 𝓤 𝓛.H 𝓜 (tables 𝓤 𝓛.H 𝓜 𝓡 𝓡.env) in
    spared 𝓛 (ended E).signature (𝓡.run (𝓡.env (#self (args E)))) (run_framed 𝓤 𝓛.H 𝓜 𝓡 (𝓡.env (#self (args E)))) 2 (Y.lives, (Z.lives, tt)) (closing 𝓛 (ended E) (spec E 𝓛))
    (entered 𝓤 𝓛.H (triple_of 𝓛 (ended E).signature (closing 𝓛 (ended E) (spec E 𝓛))) 𝓣.C 𝓣.Λ (#self (args E)) (function E) (code.unfolded 𝓤 𝓛.H 𝓜 𝓡 wired (Y, (Z, tt)) d dd) (meets E 𝓛 𝓣))
    ((y.0.0, y.0.1, tt, y.0.3, y.0.4), y.1)
