use Rattle.store_model.specs.declared.view.Place.TheVariants.{InUse, FreePlace}
use Rattle.row_sweep.specs.Gathered.{loads_of}
use Rattle.row_sweep.proofs.Gathering.{loaded_on}
use Rattle.row_sweep.proofs.Loads.{more_in_turn}
use Rattle.row_sweep.proofs.loading.load_lists.Goals as goal

pub returns : goal.returns
returns c =
    let a = c.args.seat.now in
    let b = c.load_in_use.new.seat in
    let d = c.load_places.new.seat in
    let e = c.load_buckets.new.seat in
    record {
      at = c.load_buckets.ensures.at;
      more = more_in_turn a.seat a.number a.seats b.seat b.number b.seats e.seat e.number e.seats c.load_in_use.ensures.more
          (more_in_turn b.seat b.number b.seats d.seat d.number d.seats e.seat e.number e.seats c.load_places.ensures.more c.load_buckets.ensures.more);
      loaded = let b = c.load_in_use.new.seat in let d = c.load_places.new.seat in let e = c.load_buckets.new.seat in record {
        in_use = loaded_on (loads_of d.seat) (loads_of e.seat) InUse c.load_buckets.ensures.more.extends (loaded_on (loads_of b.seat) (loads_of d.seat) InUse c.load_places.ensures.more.extends c.load_in_use.ensures.loaded);
        places = λ i l. loaded_on (loads_of d.seat) (loads_of e.seat) (FreePlace i) c.load_buckets.ensures.more.extends (c.load_places.ensures.loaded i l);
        buckets = c.load_buckets.ensures.loaded;
      };
    }
