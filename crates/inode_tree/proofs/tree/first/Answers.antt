use Rattle.std.proofs.Common.{◌≡◌, ℕ, List, [], ◌∷◌, ◌++◌, length, sym, ap, ◌∙◌, subst, Option, Some, None, cond}
use Rattle.std.specs.HashMap.{get}
use Rattle.std.specs.Bool.{nat_eq}
use Rattle.inode_tree.specs.Arena.{IsFree, IsTree, rows_of, blank}
use Rattle.inode_tree.proofs.Firsts.{first-free, first-tree, first-rows}
use Rattle.inode_tree.specs.declared.rows.Node.{Node}
use Rattle.inode_tree.proofs.tree.first.Goals as goal

pub returns : goal.returns
returns c =
    let e : c.push_reserved.new.self.items ≡ blank ∷ [] = c.push_reserved.ensures.items ∙ ap (λ (ms : List Node). ms ++ c.blank_node.result ∷ []) c.requires.nodes.0 ∙ ap (λ (x : Node). x ∷ []) c.blank_node.ensures in
    let f : c.insert.new.self.items ≡ 0 ∷ [] = c.insert.ensures ∙ ap (λ (os : List ℕ). 0 ∷ os) c.requires.order.0 in
    let ids : (q : ℕ) → get nat_eq c.give.new.places q ≡ cond (nat_eq 0 q) (Some 0) None = λ q. c.give.ensures q ∙ ap (λ (o : Option ℕ). cond (nat_eq 0 q) (Some 0) o) (c.requires.places.1 q) in
    record {
      tree = subst (λ (ns : List Node). IsTree ns c.insert.new.self.items (get nat_eq c.give.new.places)) (sym e) (subst (λ (os : List ℕ). IsTree (blank ∷ []) os (get nat_eq c.give.new.places)) (sym f) (first-tree (get nat_eq c.give.new.places) ids));
      free = subst (λ (ns : List Node). IsFree ns c.insert.new.self.items []) (sym e) (subst (λ (os : List ℕ). IsFree (blank ∷ []) os []) (sym f) first-free);
      one = ap length e;
      rows = ap (λ (ns : List Node). rows_of ns c.insert.new.self.items) e ∙ ap (rows_of (blank ∷ [])) f ∙ first-rows;
    }
