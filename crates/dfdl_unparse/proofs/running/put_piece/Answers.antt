use Rattle.dfdl_unparse.proofs.running.put_piece.Goals as goal

pub put-requires-clause-awaited : goal.put-requires-clause-awaited
put-requires-clause-awaited g c = c.requires.awaited c.bit_count-count.result
