mod Pulls
