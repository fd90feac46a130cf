pub mod Seeded
