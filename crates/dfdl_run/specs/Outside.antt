-- What is seen of the outside at one moment.
use Rattle.dfdl_edge.specs.Files.{FilesSeen}
use Rattle.dfdl_edge.specs.Source.{SourceSeen}
use Rattle.dfdl_edge.specs.Sink.{SinkSeen}
use Rattle.dfdl_breaches.specs.Builds.{PatternsSeen}

-- what a run reads: the files, the source, and what builds patterns
pub record Inputs : Type 0 where
  pub files : FilesSeen
  pub source : SourceSeen
  pub patterns : PatternsSeen

-- what a run writes: `out` and the notes
pub record Outputs : Type 0 where
  pub out : SinkSeen
  pub notes : SinkSeen

-- all of it
pub record Outside : Type 0 where
  pub inputs : Inputs
  pub outputs : Outputs
