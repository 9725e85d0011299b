use Rattle.std.proofs.Common.{subst}
use Rattle.std.proofs.Math.Logic.{∥∥₁_map}
use Rattle.std.proofs.lemmas.Bool.{and_parts, and_from}
use Rattle.sqlite_trees.specs.View.{IsClean}
use Rattle.sqlite_trees.proofs.Doubt.{no_doubt}
use Rattle.sqlite_pool.specs.Pool.{state as pool_state, files as pool_files}
use Rattle.sqlite.specs.Recovery.{Image}
use Rattle.sqlite.specs.Start.{FindsIn}
use Rattle.sqlite.specs.WalFiles.{outcomes}
use Rattle.sqlite.specs.WalReads.{AreClean}
use Rattle.sqlite.specs.FileStore.{view, files as store_files}
use Rattle.sqlite.specs.Files.{file_state}
use Rattle.sqlite.proofs.Theorems.{next_run}
use Rattle.dcc_sqlite_store.proofs.files.stop_and_open.Goals as goal

pub returns-in-Ok-clause-found : goal.returns-in-Ok-clause-found
unfolding pool_state pool_files
returns-in-Ok-clause-found g c clean =
    let it = c.into_store.result in
    let found = c.in-Ok.ensures.found clean in
    let left : Image = record { log = g.D.Disk.seen c.crash.new.self; db = g.D.Disk.seen c.crash-2.new.self } in
    let both = and_parts (g.D.Disk.is_clean c.crash.new.self) (g.D.Disk.is_clean c.crash-2.new.self) found.honest in
    let was : AreClean g.D.Disk c.close-files.result.log c.close-files.result.db = and_from _ _ (c.crash.ensures.clean both.0) (c.crash-2.ensures.clean both.1) in
    let may : AreClean g.D.Disk (store_files it).0 (store_files it).1 × outcomes g.D.Disk (store_files it).0 (store_files it).1 left =
    subst (λ p. AreClean g.D.Disk p.0 p.1 × outcomes g.D.Disk p.0 p.1 left) c.close-files.ensures (was, (c.crash.ensures.left, c.crash-2.ensures.left)) in
    let sound : IsClean (view it) = no_doubt (view it).is_clean may.0 in
    let opened : FindsIn left (file_state c.in-Ok.again) = record { holds = found.holds; reads = found.reads } in
    ∥∥₁_map (next_run it (c.into_store.ensures.numbered sound) (c.into_store.ensures.sound sound) left may (file_state c.in-Ok.again) opened) (λ r. c.into_store.ensures.quiet.outcomes _ r)
