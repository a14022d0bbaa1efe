-- The numbers from the i-th on are left to be written. Assumes nothing.
use Rattle.std.proofs.Common.{◌≡◌, drop, map}
use Rattle.print.specs.Items.{item, items}
use Rattle.print.specs.Laws.Written.{Rest}
use Rattle.print.proofs.Page.items.Given as goal

abbrev pub invariant-loop-v : goal.invariant-loop-v
invariant-loop-v l =
    Rest (items l.vs) l.initial.self.bytes.now l.initial.self.at (map item (drop l.v-index l.vs)) l.self.bytes.now l.self.at × (l.self.bytes.ghost_name ≡ l.initial.self.bytes.ghost_name)
