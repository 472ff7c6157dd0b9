use Rattle.std.proofs.lemmas.Bool.{both_ways}
use Rattle.dfdl_json.proofs.TextReading.{json_read, json_refused}
use Rattle.dfdl_json.proofs.text.json_of.Goals as goal

pub returns-in-Ok : goal.returns-in-Ok
returns-in-Ok c = json_read _ _ c.in-Ok.ensures.ok.0 c.in-Ok.ensures.ok.1

pub returns-in_ok-from_str-in-Err : goal.returns-in_ok-from_str-in-Err
returns-in_ok-from_str-in-Err c =
    json_refused _ _ c.in_ok-from_str-in-Err.ensures
    (c.in-Err.ensures.err (λ memory. both_ways _ c.if-is_memory.false (c.is_memory.ensures.1 memory)))
