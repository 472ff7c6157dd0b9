-- Mirror for the prover: how the reader goes over the bytes of an expression, and without the limit how many tokens have
-- begun in them.
use Rattle.std.specs.Prelude.{ℕ, List, Result, Ok, Err}
use Rattle.dfdl_layers.specs.Tellers.{run}
use Rattle.dfdl_layers.specs.Bytes.{Inside, between}
use Rattle.dfdl_xml_chars.specs.DocumentReading.{document_step}
use Rattle.dfdl_expression_text.specs.Machine.{State, start, step, beyond}
use Rattle.dfdl_expression_text.specs.Limit.{limited_step, limited_beyond}

abbrev pub read_start : Inside State
read_start = between start

unfoldable pub read_step : Inside State → ℕ → Result (Inside State) ℕ
read_step = document_step limited_step limited_beyond

-- the same without the limit
unfoldable pub free_step : Inside State → ℕ → Result (Inside State) ℕ
free_step = document_step step beyond

abbrev pub count_behind : Result (Inside State) ℕ → ℕ
count_behind (Ok i) = i.state.count
count_behind (Err m) = 0

abbrev pub tokens_begun : List ℕ → ℕ
tokens_begun bytes = count_behind (run free_step read_start bytes)
