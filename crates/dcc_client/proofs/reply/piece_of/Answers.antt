use Rattle.std.proofs.Common.{◌≡◌, refl}
use Rattle.http1.specs.declared.conn.Event.TheVariants.{Data, End}
use Rattle.dcc_client.proofs.Pieces.{piece_at, end_at}
use Rattle.dcc_client.proofs.reply.piece_of.Goals as goal

pub returns-in-Data-clause-piece : goal.returns-in-Data-clause-piece
returns-in-Data-clause-piece c =
    let is : c.in-Ok.field-0.event ≡ Data c.in-Data.piece = cc in
    piece_at _ _ _ _ c.in-Ok.field-0 _ c.in-Data.piece refl c.in-Ok.ensures.ok is

pub returns-in-End-clause-end : goal.returns-in-End-clause-end
returns-in-End-clause-end c =
    let is : c.in-Ok.field-0.event ≡ End c.in-End.field-0 = cc in
    end_at _ _ _ _ c.in-Ok.field-0 _ c.in-End.field-0 refl c.in-Ok.ensures.ok is
