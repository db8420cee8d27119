use Rattle.std.proofs.Common.{refl, sym, arith}
use Rattle.rapid_text.proofs.NumberCacheProperties.{put_entry}
use Rattle.rapid_text.proofs.number_cache.NumberCache.put.Goals as goal

pub returns : goal.returns
returns c =
    let fits = c.if-not-fits_entry.ensures.0 refl in
    rw (sym c.self.view_is) (put_entry c.self.inside.list.items c.place_for-place.result c.args.number
    c.args.name.now _ (record {
      number_is = refl;
      held = record {
        length_is = refl;
        some = fits.0;
        short = omega (arith, fits.1, c.self.invariant.0);
        words_tell = c.of-mixed.ensures;
      };
    }))
