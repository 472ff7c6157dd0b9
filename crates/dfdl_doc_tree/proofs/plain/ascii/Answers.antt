use Rattle.std.proofs.Common.{Result, Ok, Err, refl}
use Rattle.std.proofs.lemmas.Str.{IsUtf8-from_ascii}
use Rattle.std.specs.Result.{IsOk, MatchResult}
use Rattle.dfdl_doc_tree.proofs.plain.ascii.Goals as goal

-- what cannot be refused is there
is_ok_by : {T E : Type 0} (r : Result T E) (P : T → Type 0) (Q : Type 0) (R : E → Type 0) → Q
    → MatchResult r P (λ e. (¬ Q) × R e) → IsOk r
is_ok_by (Ok t) P Q R q is = refl
is_ok_by (Err e) P Q R q is = absurd (is.0 q)

pub unwrap-requires : goal.unwrap-requires
unwrap-requires c =
    is_ok_by c.from_utf8.result _ _ _ (IsUtf8-from_ascii c.args.bytes.now c.requires) c.from_utf8.ensures.cases
