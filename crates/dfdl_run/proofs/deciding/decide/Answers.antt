use Rattle.std.proofs.Common.{refl}
use Rattle.dfdl_compile.specs.Settling.{nothing_free}
use Rattle.dfdl_run.specs.Decided.{by_words, by_schema, by_data}
use Rattle.dfdl_run.specs.CommandShown.{order_shown}
use Rattle.dfdl_run.proofs.deciding.decide.Goals as goal

pub returns-in-Err : goal.returns-in-Err
returns-in-Err g c = (nothing_free, by_words c.in-Err.at c.in-Err.ensures.place (cc) refl)

pub returns-in-Ok-load_terms : goal.returns-in-Ok-load_terms
returns-in-Ok-load_terms g c = (
  c.in-Ok-load_terms.ensures.ok.0,
  by_data (order_shown c.in-Ok.command) _ c.in-Ok.ensures.ok c.in-Ok-load_terms.ensures.ok.1 c.read_answer.ensures,
)

pub returns-in-Err-load_terms : goal.returns-in-Err-load_terms
returns-in-Err-load_terms g c = (
  c.in-Err-load_terms.ensures.err.0,
  by_schema (order_shown c.in-Ok.command) _ c.in-Ok.ensures.ok refl c.in-Err-load_terms.ensures.err.1
      c.in-Err-load_terms.ensures.few refl,
)
