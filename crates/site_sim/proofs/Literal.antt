-- The keys and the names of the simulation's site are what they are read to, and the site is proper.
use Rattle.std.proofs.Common.{◌≡◌, refl, arith, Ok}
use Rattle.std.specs.Prelude.{codes}
use Rattle.std.specs.List.{IsDistinct}
use Rattle.gs1_keys.specs.Keys.{check, gln_of, gtin_of, key_fault, prefix_of, text_of}
use Rattle.deed_words.specs.Names.{same}
use Rattle.deed_words.specs.Setups.{IsProper, begins_with, is_offset, is_product, reference_bound}
use Rattle.site_sim.specs.Example as example

pub site_is_proper : IsProper example.site
unfolding example.site begins_with same is_offset is_product reference_bound IsDistinct
site_is_proper = record {
  gln = refl;
  prefix = (omega arith, omega arith);
  extension = omega arith;
  reference = omega arith;
  offset = refl;
  product_count = (omega arith, omega arith);
  products = refl;
  gtins_differ = ((refl, tt), (tt, tt));
  station_count = (omega arith, omega arith);
  names_differ = ((refl, (refl, (refl, tt))), ((refl, (refl, tt)), ((refl, tt), (tt, tt))));
}

pub batch_read : text_of (codes "SIM") ≡ Ok (codes "SIM")
unfolding text_of
batch_read = refl

pub first_read : gtin_of (codes "00614141123452") ≡ Ok (codes "00614141123452")
unfolding gtin_of key_fault check
first_read = refl

pub second_read : gtin_of (codes "80614141123458") ≡ Ok (codes "80614141123458")
unfolding gtin_of key_fault check
second_read = refl

pub gln_read : gln_of (codes "0614141000012") ≡ Ok (codes "0614141000012")
unfolding gln_of key_fault check
gln_read = refl

pub prefix_read : prefix_of (codes "0614141") ≡ Ok (codes "0614141")
unfolding prefix_of
prefix_read = refl
