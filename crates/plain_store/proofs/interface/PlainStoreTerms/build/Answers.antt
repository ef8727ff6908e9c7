use Rattle.plain_store.proofs.Ends.{end_ok, end_trees, end_err, end_err_trees, end_deep, end_full, end_filled, end_worn, end_refusals, end_sound, end_same, end_losses, end_used_up}
use Rattle.plain_store.proofs.interface.PlainStoreTerms.build.Goals as goal

pub returns : goal.returns
returns c =
    let e = c.build_tree.ensures in
    record {
      ok = end_ok _ _ _ _ _ e;
      trees = end_trees _ _ _ _ _ e;
      err = end_err _ _ _ _ _ e;
      err_trees = end_err_trees _ _ _ _ _ e;
      deep = end_deep _ _ _ _ _ e;
      store_full_only_where_crowded = λ h. (end_full _ _ _ _ _ e h).0;
      worn_only_where_spent = λ h. absurd (end_worn _ _ _ _ _ e h);
      was_sound = c.is_full.ensures.sound;
      refusals = end_refusals _ _ _ _ _ e;
      sound = end_sound _ _ _ _ _ c.is_full.ensures.sound e;
      same = end_same _ _ _ _ _ e;
      store_full_only_where_filled = λ h. (end_full _ _ _ _ _ e h).1;
      filled_is_store_full = end_filled _ _ _ _ _ e;
      never_worn = end_worn _ _ _ _ _ e;
      losses = end_losses _ _ _ _ _ e;
      rows_lost_only_where_used_up = end_used_up _ _ _ _ _ e;
    }
