use Rattle.ksm_tree.proofs.Names.{arith, bytes_eq-Decides, content_of}
use Rattle.ksm_tree.proofs.groups.Groups.is_of.Goals as goal

pub returns-then-group-tree : goal.returns-then-group-tree
returns-then-group-tree c is =
    (c.args.self.now.lawful (content_of c.args.tree c.args.bytes.now) c.args.number).1
    (grind (arith, (bytes_eq-Decides c.in-Some.group.now.content.bytes c.args.bytes.now).0))
