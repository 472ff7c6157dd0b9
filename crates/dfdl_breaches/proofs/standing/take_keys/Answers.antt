use Rattle.std.proofs.Common.{◌≡◌, refl, ap, ◌∙◌, ℕ, List, [], ◌∷◌, ◌++◌, arith}
use Rattle.dfdl_breaches.specs.Standing.{is_taken}
use Rattle.dfdl_breaches.proofs.Standings.{key_more, keys_end, taken_end, taken_more}
use Rattle.dfdl_breaches.proofs.standing.take_keys.Goals as goal

pub loop-key-preserved : goal.loop-key-preserved
loop-key-preserved c =
    let made : c.push.new.self.items ≡ c.loop-key.taken.items ++ c.key-item.result ∷ []
    = c.in_ok-push.ensures.items ∙ ap (λ (k : List ℕ). c.loop-key.taken.items ++ k ∷ []) c.in_ok-copy.ensures in
    record {
      again =
          key_more c.args.keys.now c.loop-key.taken.items c.push.new.self.items c.key-item.result c.loop-key.key-index _ c.loop-key.again _
          c.is_taken-is_again.result _ c.loop-key-test.true c.key-item.is
          (c.is_taken-is_again.ensures ∙ ap (λ (ks : List (List ℕ)). is_taken ks c.key-item.result) c.as_slice.ensures.value) made refl
          c.loop-key.invariant.again;
      taken =
          taken_more c.args.keys.now c.loop-key.taken.items c.push.new.self.items _ c.key-item.result c.loop-key.key-index _ c.loop-key-test.true
          c.key-item.is made c.loop-key.invariant.taken;
    }

pub returns-clause-again : goal.returns-clause-again
returns-clause-again c =
    keys_end c.args.keys.now c.loop-key.taken.items c.loop-key.key-index _ _ (omega (arith, c.loop-key-test.false)) c.loop-key.invariant.again

pub returns-clause-taken : goal.returns-clause-taken
returns-clause-taken c =
    taken_end c.args.keys.now c.loop-key.taken.items _ c.loop-key.key-index (omega (arith, c.loop-key-test.false)) c.loop-key.invariant.taken
