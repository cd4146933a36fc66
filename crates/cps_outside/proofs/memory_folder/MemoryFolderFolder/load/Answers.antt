-- A load that found its content is not one that fails.
use Rattle.std.proofs.Common.{◌∙◌}
use Rattle.std.proofs.lemmas.Bool.{false≢true}
use Rattle.cps_outside.proofs.memory_folder.MemoryFolderFolder.load.Goals as goal

pub returns-then-content-most-clause-fails : goal.returns-then-content-most-clause-fails
returns-then-content-most-clause-fails c = λ fails. absurd (false≢true
    (rw (c.saturating_add-self.ensures, c.as_slice.ensures.value, c.as_slice-files.ensures.value)
    at c.in-Some.ensures.fails ∙ fails))

pub returns-clause-fails : goal.returns-clause-fails
returns-clause-fails c = λ fails. absurd (false≢true
    (rw (c.saturating_add-self.ensures, c.as_slice.ensures.value, c.as_slice-files.ensures.value)
    at c.in-Some.ensures.fails ∙ fails))
