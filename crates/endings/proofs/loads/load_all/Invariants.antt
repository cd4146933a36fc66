use Rattle.std.proofs.Common.{map, take, string_bytes, vec_items}
use Rattle.endings.specs.Loads.{Loads}
use Rattle.endings.proofs.loads.load_all.Given as goal

-- the files so far are loaded
abbrev pub invariant-loop-index : goal.invariant-loop-index
invariant-loop-index g l =
    Loads (g.F.Folder.state l.fn.folder) (g.F.Folder.state l.folder)
    (take l.index (map string_bytes l.names)) (map vec_items l.contents.items)
