-- A `&` to the nodes is made where one to an element is. Assumes `Logic`.
use Rattle.cursor_list.proofs.Vocabulary.{[], ◌++◌, Incl-trans, meet_⊑_left, RattleType, Laws, copy_shared, RawPtr-field, usize-field, RawPtr-copy, usize-copy, of_Lends, Ghosts, links_of}
use Rattle.cursor_list.proofs.Vocabulary.{chain_lent_laws, Lends-nodes}
use Rattle.cursor_list.proofs.nodes.Nodes.TheLaw.Statement.{statement}
use Rattle.cursor_list.specs.contracts.nodes.Nodes as C

pub shares : (R B : RattleType) (g : Ghosts B.Denot) (L : Laws R) (K : Laws B) → statement R B g L K
shares R B g L K = of_Lends (C.struct R B g) (C.the_codes R.Denot B.Denot R.coded B.coded) (C.the_heap R B g) (C.the_lent R B g)
    (λ d p. chain_lent_laws R L.shr_laws (links_of d.blocks) d.items) (copy_shared RawPtr-field RawPtr-copy, (copy_shared RawPtr-field RawPtr-copy, (copy_shared usize-field usize-copy, tt)))
    (λ M 𝓤 𝓛 d p.
    Lends-nodes 𝓛 (C.the_row R B g).lives R B g.dealloc_token L (Incl-trans (meet_⊑_left (R.lives ++ (B.lives ++ [])) _) (meet_⊑_left R.lives (B.lives ++ []))) d.blocks d.items)
