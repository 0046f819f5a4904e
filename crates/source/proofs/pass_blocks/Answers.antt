use Rattle.std.proofs.Common.{rules, tests, refl, arith}
use Rattle.std.proofs.lemmas.Iterator.{YieldsList-from_slice}
use Rattle.std.proofs.lemmas.Iterator.Search.{position_from_yields_List}
use Rattle.source.specs.Code.{is_not}
use Rattle.source.proofs.Places.{fails, blocks_found, block_stops}
use Rattle.source.proofs.pass_blocks.Goals as goal

pub as_chunks-requires : goal.as_chunks-requires
as_chunks-requires g c = (omega arith, c.requires.size.0)

pub position-passed-requires-room-P-FnMut : goal.position-passed-requires-room-P-FnMut
position-passed-requires-room-P-FnMut g c κs within = omega arith

pub position-passed-requires-room-P-FnOnce : goal.position-passed-requires-room-P-FnOnce
position-passed-requires-room-P-FnOnce g c κs within = omega arith

pub returns : goal.returns
returns g c =
    let found = position_from_yields_List (fails (is_not c.args.c)) _ _ c.position-passed.result c.position-passed.ensures.ran (YieldsList-from_slice _ c.iter.ensures.rest) (λ x b q k. search (rules, tests)) in
    record {
      passes = blocks_found (is_not c.args.c) c.args.src.now _ _ c.args.at g.row.N c.unwrap_or.result c.position-passed.result c.requires.inside refl c.as_chunks.ensures.front found c.unwrap_or.ensures;
      stops = block_stops (is_not c.args.c) c.args.src.now _ _ c.args.at g.row.N c.unwrap_or.result c.position-passed.result c.requires.inside refl c.as_chunks.ensures.front found c.unwrap_or.ensures c.requires.size.0;
    }
