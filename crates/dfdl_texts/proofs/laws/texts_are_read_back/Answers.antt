use Rattle.std.proofs.Common.{◌+◌, length, [], refl, arith}
use Rattle.dfdl_chars.proofs.ReadBack.{reads_text}
use Rattle.dfdl_texts.specs.declared.extent.Extent.TheVariants.{Box, Characters}
use Rattle.dfdl_texts.specs.Texts.{most_of}
use Rattle.dfdl_texts.proofs.ReadBack.{counted-back, boxed-back}
use Rattle.dfdl_texts.proofs.laws.texts_are_read_back.Goals as goal

pub returns-clause-counted : goal.returns-clause-counted
returns-clause-counted c look enc replaces stop k t chars bytes scalars is sees =
    counted-back look enc stop replaces (Characters (length chars)) chars k (k + length bytes) [] t
    (reads_text enc chars bytes (record { look = look; stop = stop }) k scalars is sees)

pub returns-clause-boxed : goal.returns-clause-boxed
returns-clause-boxed c look enc replaces stop k t chars bytes scalars is sees at =
    boxed-back look enc stop replaces Box refl chars (most_of Box stop k) k (k + length bytes) [] t
    (reads_text enc chars bytes (record { look = look; stop = stop }) k scalars is sees) at (omega arith)
